-- The first matching of a molecule, once its marks are as they are stored. Assumes nothing.
use Prim.Native.Nat.{ℕ, ◌<◌}
use native.Mathlib.Omega.{arith}
use mathlib.Core.Path.{◌≡◌, sym, ap, ◌∙◌}
use mathlib.Core.List.{List}
use lib.IntN.{ℤ}
use Rattle.matching.specs.Enumeration.{row_call}
use Rattle.matching.specs.declared.Call.TheVariants.{First}
use Rattle.table.specs.Orders.{turn_marks}
use Rattle.table.proofs.Orders.{turned-but}
use Rattle.table_graph.specs.Graph.{graph_of}
use Rattle.matching.specs.Graph.{is_matching}
use Rattle.table_graph.proofs.Marks.{but-flags}
use Rattle.kekule.specs.First.{first_in, FirstIn}
use Rattle.reading.specs.Read.{ReadResult}
use Rattle.std.proofs.Common.{Option, Some, None, Result, Ok, Err}
use Rattle.std.specs.Option.{is_some}
use Rattle.reader.specs.declared.answer.Counts.{Counts}
use Rattle.reader.specs.declared.answer.TextRefusal.{TextRefusal}
use Rattle.reader.specs.Filled.{placed_by}
use Rattle.reader.specs.Ending.{told}
use Rattle.reader.specs.Chosen.{ChosenBy, Chosen}

module _ (f : ℕ → ℕ → ℕ) (w : Option ℕ) {v b : List ℤ} {n m : ℕ} {row row' : List ℕ} (h : FirstIn v b n m row (is_some w) row') where
  stored-first : row' ≡ first_in (turn_marks f b m n v) b n m row
  stored-first = h.first ∙ ap (λ (flags : List ℕ). (row_call (is_matching flags (graph_of b m)) m First row).row) (sym (but-flags (turned-but f b m n n v) b m))

  pub chosen-placed : {t : Result Counts TextRefusal} {x y : List ℤ} → told t x y ≡ placed_by w (turn_marks f b m n v) b n m → Chosen t x y row row'
  chosen-placed {t} {x} {y} e = record { is = go w t e }
    where
      go : (w : Option ℕ) (t : Result Counts TextRefusal) → told t x y ≡ placed_by w (turn_marks f b m n v) b n m → ChosenBy t x y row row'
      go w (Err x) e = tt
      go (Some k) (Ok z) e = stored-first ∙ ap (λ (z : ReadResult). first_in z.atoms z.bonds z.atom_count z.bond_count row) (sym e)
      go None (Ok z) e = absurd (let z = ap (λ (t : ReadResult). t.code) e in omega (arith, z))

-- of a refusal nothing is said
pub chosen-refused : {row row' : List ℕ} {t : Result Counts TextRefusal} {x y : List ℤ} {o : ReadResult} → told t x y ≡ o → 0 < o.code → Chosen t x y row row'
chosen-refused {row} {row'} {t} {x} {y} {o} e h = record { is = go t e }
  where
    go : (t : Result Counts TextRefusal) → told t x y ≡ o → ChosenBy t x y row row'
    go (Err x) e = tt
    go (Ok x) e = absurd (let z = ap (λ (t : ReadResult). t.code) e in omega (arith, h, z))
