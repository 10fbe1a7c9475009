-- Laws of the check of a reason, and of the search that is left where there is one. Assumes nothing.
use mathlib.Core.Path.{◌≡◌, refl, sym, ap, ◌∙◌}
use mathlib.Core.Bool.{Bool, true, false, ◌&&◌, ◌||◌, not}
use mathlib.Core.List.{List, [], ◌++◌}
use Prim.Native.Nat.{ℕ, ◌+◌, ◌-◌, ◌≤◌, ◌<◌}
use native.Mathlib.Omega.{arith}
use lib.ListN.{length, take, drop, replicate}
use Rattle.loops.specs.Loop.{run}
use Rattle.matching.specs.Model.{Shape, BondTables, Ends, Searched, all_from, bonds_from, table_bond, free_at, written, some?}
use Rattle.matching.specs.Cut.{cnt, fine, all_fine, flips, marks}
use Rattle.matching.proofs.Cut.{cut-matchings}
use Rattle.matching_search.proofs.Choice.{bonds-step, bonds-end}
use Rattle.matching_certified.proofs.Count.{marked-odds}

pub passed : {f r fr fi : Bool} → f ≡ fr → f ≡ true → r ≡ fi → r ≡ (not fr || fi)
passed e t k = k ∙ rw (← e, t)

pub unfree : {f fr : Bool} (fi : Bool) → f ≡ fr → f ≡ false → true ≡ (not fr || fi)
unfree fi e t = rw (← e, t)

pub ends_at : {ea eb el need : List ℕ} {k j : ℕ} → BondTables ea eb el need k → j < length ea → Ends ea eb need j
ends_at t h = record { first = h; second = omega (arith, t.second); end1 = t.ends1 _ h; end2 = t.ends2 _ h }

pub ends-lab : {ea eb need lab : List ℕ} {j : ℕ} → Ends ea eb need j → length need ≤ length lab → Ends ea eb lab j
ends-lab e l = record { first = e.first; second = e.second; end1 = omega (arith, e.end1); end2 = omega (arith, e.end2) }

-- a look at the bonds from k on stands at j
pub record Passing (ea eb el need lab : List ℕ) (k j : ℕ) : Type 0 where
  pub upto : j ≤ length ea
  pub same : all_fine need lab (bonds_from ea eb el k) ≡ all_fine need lab (bonds_from ea eb el j)

module _ {ea eb el need lab : List ℕ} {k j : ℕ} (t : BondTables ea eb el need k) (p : Passing ea eb el need lab k j) where
  fine-step : j < length ea → all_fine need lab (bonds_from ea eb el j) ≡ ((not (free_at ea eb el need j) || fine lab (table_bond ea eb el j)) && all_fine need lab (bonds_from ea eb el (j + 1)))
  unfolding all_fine
  fine-step h = ap (all_fine need lab) (bonds-step ea eb el j h (omega (arith, t.second)) (omega (arith, t.third)))

  pub fine-on : j < length ea → {r : Bool} → r ≡ (not (free_at ea eb el need j) || fine lab (table_bond ea eb el j)) → r ≡ true → Passing ea eb el need lab k (j + 1)
  fine-on h e y = record { upto = omega arith; same = p.same ∙ fine-step h ∙ rw (← e, y) }

  pub fine-off : j < length ea → {r : Bool} → r ≡ (not (free_at ea eb el need j) || fine lab (table_bond ea eb el j)) → r ≡ false → false ≡ all_fine need lab (bonds_from ea eb el k)
  fine-off h e n = sym (p.same ∙ fine-step h ∙ rw (← e, n))

  pub fine_end : length ea ≤ j → true ≡ all_fine need lab (bonds_from ea eb el k)
  unfolding all_fine
  fine_end h = sym (p.same ∙ rw (bonds-end ea eb el j h))

-- more odd labels than atoms in the cut
pub cut_all : {ea eb el need : List ℕ} (lab : List ℕ) {odd : List Bool} {k s o : ℕ} {f : Bool} (m : ℕ) → BondTables ea eb el need k → length need ≤ length lab → 0 < m
    → f ≡ all_fine need lab (bonds_from ea eb el k) → f ≡ true → odd ≡ run (flips need lab) 0 (length need) (replicate m false)
    → s ≡ cnt need lab 0 → o ≡ marks odd (length odd - 1) → s < o → all_from ea eb el need k ≡ []
cut_all {ea} {eb} {el} {need} lab {k = k} m t l h a y e c d b =
    let q = marked-odds need lab m l h e in
    cut-matchings (bonds_from ea eb el k) need lab (m - 1) (length ea - k) l (sym a ∙ y) (omega arith)

pub tables : {ea eb el need row : List ℕ} {k : ℕ} → Shape ea eb el need row k → BondTables ea eb el need k
tables s = record { second = s.second; third = s.third; upto = s.upto; ends1 = s.ends1; ends2 = s.ends2 }

pub given-up : {ea eb el need row row' : List ℕ} {k : ℕ} → Shape ea eb el need row k → all_from ea eb el need k ≡ [] → row' ≡ take k row ++ (replicate (length ea - k) 0 ++ drop (length ea) row)
    → Searched need row k (length ea) (all_from ea eb el need k) false need row'
given-up {ea} {row = row} {k = k} s e w = record { same = refl; told = sym (ap some? e); wrote = w ∙ sym (ap (written k row (length ea)) e) }
