-- Laws of the search along the bonds: what it finds from the bond where it stands on, it finds from its first bond on. Assumes nothing.
use mathlib.Core.Path.{◌≡◌, refl, ◌∙◌}
use mathlib.Core.Bool.{Bool}
use mathlib.Core.List.{List}
use Prim.Native.Nat.{ℕ, ◌+◌, ◌≤◌, ◌<◌}
use native.Mathlib.Omega.{arith}
use lib.ListN.{length, set, length-set}
use Rattle.matching.specs.Graph.{none_flagged}
use Rattle.matching.specs.Model.{Shape, Searched, all_from}
use Rattle.matching_search.proofs.Choice.{at-end, shape-next}

pub inside : {i m : ℕ} → i < m → i ≡ m → ⊥
inside h e = omega arith

-- the search from k on, begun with need₀ and row₀, stands at the bond i with need and row
pub record Along (ea eb el need₀ row₀ : List ℕ) (k i : ℕ) (need row : List ℕ) : Type 0 where
  pub begun : k ≤ i
  pub shape : Shape ea eb el need row i
  pub flags : length need ≡ length need₀
  pub long : length row ≡ length row₀
  pub rest : {q : Bool} {need1 row1 : List ℕ} → Searched need row i (length ea) (all_from ea eb el need i) q need1 row1 → Searched need₀ row₀ k (length ea) (all_from ea eb el need₀ k) q need1 row1

pub along-start : {ea eb el need row : List ℕ} {k : ℕ} → Shape ea eb el need row k → Along ea eb el need row k k need row
along-start s = record { begun = omega arith; shape = s; flags = refl; long = refl; rest = λ d. d }

module _ {ea eb el need₀ row₀ : List ℕ} {k i : ℕ} {need row : List ℕ} (a : Along ea eb el need₀ row₀ k i need row) where
  -- the bond i is left: what is found from the next bond on is found from i on
  pub along-step : i < length ea → {need1 : List ℕ} (row1 : List ℕ) → length need1 ≡ length need → length row1 ≡ length row
      → ((q : Bool) (need2 row2 : List ℕ) → Searched need1 (set row1 i 0) (i + 1) (length ea) (all_from ea eb el need1 (i + 1)) q need2 row2 → Searched need row i (length ea) (all_from ea eb el need i) q need2 row2)
      → Along ea eb el need₀ row₀ k (i + 1) need1 (set row1 i 0)
  along-step h row1 n r f = record {
    begun = omega (arith, a.begun);
    shape = shape-next a.shape (inside h) n (length-set row1 i 0 ∙ r);
    flags = n ∙ a.flags;
    long = length-set row1 i 0 ∙ r ∙ a.long;
    rest = λ d. a.rest (f _ _ _ d);
  }

  pub along-end : length ea ≤ i → {r : Bool} → r ≡ none_flagged need → Searched need₀ row₀ k (length ea) (all_from ea eb el need₀ k) r need row
  along-end h e = a.rest (at-end a.shape (omega (arith, a.shape.upto)) e)
