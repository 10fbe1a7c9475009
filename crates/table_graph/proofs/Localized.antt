-- A molecule with no delocalized atom has one matching, the row of zeros; so has one with no selected atom. Assumes nothing.
use Prim.Native.Nat.{ℕ, zero, suc, ◌+◌, ◌<◌}
use native.Mathlib.Omega.{arith}
use mathlib.Core.Path.{◌≡◌, refl, ap, subst}
use mathlib.Core.Bool.{true, false}
use mathlib.Core.List.{List, [], ◌∷◌}
use lib.ListN.{replicate}
use lib.IntN.{ℤ}
use lib.Dec.{eqb}
use borrow.Author.Tests.{not-true}
use Rattle.loops.specs.Loop.{up_to}
use Rattle.loops.proofs.Loops.{length-up_to, each_at}
use Rattle.table.specs.Cells.{selected}
use Rattle.valence.specs.Valence.{delocalized}
use Rattle.matching.specs.Enumeration.{matchings}
use Rattle.matching.specs.Graph.{none_flagged}
use Rattle.matching.specs.Model.{some?}
use Rattle.matching.proofs.Claims.{one-zero-row}
use Rattle.table_graph.specs.Graph.{flag, delocalized_at, delocalized_flag, delocalized_flags, not_selected, none_selected, bond_of, graph_of, matching_of, matchable}

-- flags that are all 0
zero_flags : (f : ℕ → ℕ) (k n : ℕ) → ((j : ℕ) → j < k + n → f j ≡ 0) → none_flagged (up_to f k n) ≡ true
unfolding up_to none_flagged
zero_flags f k zero h = refl
zero_flags f k (suc n) h = rw (h k (omega arith)) (zero_flags f (suc k) n (λ j l. h j (omega arith)))

-- an atom that is not selected is not delocalized
unselected-localized : (atoms bonds : List ℤ) (m a : ℕ) → not_selected atoms a ≡ true → delocalized_at atoms bonds m a ≡ false
unfolding delocalized
unselected-localized atoms bonds m a h = let e : eqb (selected atoms a) 1 ≡ false = not-true (eqb (selected atoms a) 1) h in simp e

module _ (atoms bonds : List ℤ) (n m : ℕ) where
  localized-one : ((a : ℕ) → a < n → delocalized_at atoms bonds m a ≡ false) → matchings (matching_of atoms bonds n m) m ≡ replicate m 0 ∷ []
  localized-one h =
      let z = zero_flags (delocalized_flag atoms bonds m) 0 n (λ j l. ap flag (h j (omega arith))) in
      subst (λ (k : ℕ). matchings (matching_of atoms bonds n m) k ≡ replicate k 0 ∷ []) (length-up_to (bond_of bonds) 0 m) (one-zero-row (delocalized_flags atoms bonds n m) (graph_of bonds m) z)

  pub localized-matchable : ((a : ℕ) → a < n → delocalized_at atoms bonds m a ≡ false) → matchable atoms bonds n m ≡ true
  unfolding matchable
  localized-matchable h = ap some? (localized-one h)

  -- no atom is selected: there is one matching, all 0
  module _ (h : none_selected atoms n ≡ true) where
    pub unselected-one : matchings (matching_of atoms bonds n m) m ≡ replicate m 0 ∷ []
    unfolding none_selected
    unselected-one = localized-one (λ a l. unselected-localized atoms bonds m a (each_at (not_selected atoms) n a h l))

    pub unselected-matchable : matchable atoms bonds n m ≡ true
    unfolding matchable
    unselected-matchable = ap some? unselected-one
