-- Alike tables are written the same: tokens, renumbering, the bytes of each atom, the text and what writing hands back. Assumes nothing.
use Prim.Native.Nat.{ℕ, ◌*◌, ◌≤◌}
use mathlib.Core.Path.{◌≡◌}
use mathlib.Core.Bool.{◌&&◌}
use mathlib.Core.List.{List, [], ◌∷◌, ◌++◌}
use lib.ListN.{length}
use lib.IntN.{ℤ}
use lib.Dec.{eqb, leb}
use Rattle.loops.specs.Loop.{pick, up_to}
use Rattle.ids.specs.Limits.{max_text}
use Rattle.element.specs.Lookup.{bare}
use Rattle.valence.specs.Valence.{implied}
use Rattle.table.specs.Limits.{atom_cells, ISOTOPE, CHARGE, EXTENSION}
use Rattle.table.specs.Cells.{number, atom_place}
use Rattle.writing_walk.specs.Token.{bond}
use Rattle.writing_walk.specs.Emit.{pre}
use Rattle.writing_walk.specs.Walk.{forest_of, place, write}
use Rattle.writing_walk.specs.Parents.{ups, other_end, walk_rank}
use Rattle.writing.specs.Spell.{isotope_bytes, symbol_bytes, mark_bytes, hydrogen_bytes, charge_bytes, extension_bytes, bracket_bytes, neutral, without_brackets, spelled_atom, atom_bytes, tokens_bytes}
use Rattle.writing.specs.Write.{walk_bond, bond_list, tokens, written_rank, marks_written, text_of, renumbering, few_bridges, shallow, write_refused, write_accepted, write_valid}
use Rattle.table_alike.specs.Alike.{Alike}
use Rattle.table_alike.proofs.Readings.{same-element, same-selected, same-hydrogens, same-mark, same_first, same_second, same_kind, same_sum}
use Rattle.table_alike.proofs.Edits.{alike-marks}

-- ---- the bytes of an atom; k: its mark as it is written
module _ {atoms atoms' : List ℤ} (q : Alike atoms atoms') where
  -- in brackets
  pub same_bracket : (a k : ℕ) → bracket_bytes atoms a k ≡ bracket_bytes atoms' a k
  unfolding bracket_bytes
  same_bracket a k =
      λ i.
      91 ∷ (isotope_bytes (number (q.cell (atom_place a ISOTOPE) i)) ++ (symbol_bytes (same-element q a i) (same-selected q a i) ++ (mark_bytes k ++ (hydrogen_bytes (same-hydrogens q a i)
      ++ (charge_bytes (q.cell (atom_place a CHARGE) i) ++ (extension_bytes (number (q.cell (atom_place a EXTENSION) i)) ++ 93 ∷ []))))))

  -- brackets are needed in both or in neither
  pub same-unbracketed : (a k sum : ℕ) → without_brackets atoms a k sum ≡ without_brackets atoms' a k sum
  unfolding without_brackets
  same-unbracketed a k sum =
      λ i.
      eqb (number (q.cell (atom_place a ISOTOPE) i)) 0 && neutral (q.cell (atom_place a CHARGE) i) && eqb (number (q.cell (atom_place a EXTENSION) i)) 0 && eqb k 0
      && bare (same-element q a i) && eqb (implied (same-element q a i) (same-selected q a i) sum) (same-hydrogens q a i)

  -- either way
  pub same-spelled : (a k sum : ℕ) → spelled_atom atoms a k sum ≡ spelled_atom atoms' a k sum
  unfolding spelled_atom
  same-spelled a k sum = λ i. pick (same-unbracketed a k sum i) (symbol_bytes (same-element q a i) (same-selected q a i)) (same_bracket a k i)

-- ---- the walk
module _ {bonds bonds' : List ℤ} (r : Alike bonds bonds') where
  -- a bond, as the walk sees it
  pub same-walk-bond : (b : ℕ) → walk_bond bonds b ≡ walk_bond bonds' b
  same-walk-bond b = λ i. bond (same_first r b i) (same_second r b i) (same_kind r b i)

  -- all of them
  pub same-bond-list : (m : ℕ) → bond_list bonds m ≡ bond_list bonds' m
  same-bond-list m = λ i. up_to (λ b. same-walk-bond b i) 0 m

  -- the place of a bond in the text
  pub same_rank : (n m : ℕ) → written_rank bonds n m ≡ written_rank bonds' n m
  unfolding written_rank
  same_rank n m =
      λ i a b.
      walk_rank n (ups (forest_of n (same-bond-list m i)) 0 0) (place (pre (forest_of n (same-bond-list m i))) a) (place (pre (forest_of n (same-bond-list m i))) (other_end a (same-walk-bond b i)))

  -- the bytes of an atom, with the mark that its row has
  pub same-atom-bytes : {atoms atoms' : List ℤ} → Alike atoms atoms' → (m a : ℕ) → atom_bytes atoms bonds m a ≡ atom_bytes atoms' bonds' m a
  same-atom-bytes q m a = λ i. same-spelled q a (same-mark q a i) (same_sum r m a i) i

module _ {atoms atoms' bonds bonds' : List ℤ} (q : Alike atoms atoms') (r : Alike bonds bonds') (n m : ℕ) where
  -- the tokens of the walk
  pub same-tokens : tokens bonds n m ≡ tokens bonds' n m
  unfolding tokens
  same-tokens = λ i. write n (λ a. a) (same-bond-list r m i)

  -- each atom's walk number
  pub same-renumbering : renumbering bonds n m ≡ renumbering bonds' n m
  unfolding renumbering
  same-renumbering = λ i. up_to (place (pre (forest_of n (same-bond-list r m i)))) 0 n

  module _ (l : atom_cells * n ≤ length atoms) (h : atom_cells * n ≤ length atoms') where
    -- the atoms with their marks as they are written
    pub alike-written : Alike (marks_written atoms bonds n m) (marks_written atoms' bonds' n m)
    unfolding marks_written
    alike-written = alike-marks (written_rank bonds n m) (written_rank bonds' n m) (same_rank r n m) r q n m l h

    -- the bytes of the walk
    pub same_text : text_of atoms bonds n m ≡ text_of atoms' bonds' n m
    unfolding text_of
    same_text = λ i. tokens_bytes (λ a. same-atom-bytes r alike-written m a i) (same-tokens i)

    -- what writing hands back
    pub same-written : (out ren : List ℕ) → write_valid atoms bonds n m out ren ≡ write_valid atoms' bonds' n m out ren
    unfolding write_valid
    same-written out ren =
        λ i.
        pick (few_bridges (same-tokens i))
        (pick (shallow (same-tokens i))
        (pick (leb (length (same_text i)) max_text) (write_accepted (same_text i) (same-renumbering i) out ren) (write_refused 16 out ren))
        (write_refused 15 out ren))
        (write_refused 14 out ren)
