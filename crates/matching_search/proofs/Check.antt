-- Laws of looking whether a row is a matching, bond by bond. Assumes nothing.
use mathlib.Core.Path.{◌≡◌, refl, sym, ap, ◌∙◌}
use mathlib.Core.Bool.{Bool, true, false, ◌&&◌}
use mathlib.Core.List.{List, ◌∷◌}
use Prim.Native.Nat.{ℕ, suc, ◌+◌, ◌-◌, ◌<◌}
use native.Mathlib.Omega.{arith}
use native.Mathlib.Numerals.{add-one}
use native.Mathlib.Decide.{ℕ_discrete}
use lib.Dec.{eqb, leb}
use lib.ListN.{length, get_or}
use lib.Seq.{drop-cons}
use borrow.Author.Tests.{lt-leb}
use Rattle.loops.specs.Loop.{pick}
use Rattle.matching.specs.Graph.{Bond, none_flagged}
use Rattle.matching.specs.Enumeration.{Row, is_row}
use Rattle.matching.specs.Model.{pairs_up, part, matching_from, bonds_from, Shape, free_at, mark_at}
use Rattle.matching_search.proofs.Flags.{never, restore}
use Rattle.matching_search.proofs.Choice.{less_one, bonds-end, bonds-step, here, here2, here3, in_row}

-- the row from k on
pub part_step : (m : ℕ) (row : Row) (k : ℕ) → k < m → k < length row → part m row k ≡ get_or row k 0 ∷ part m row (k + 1)
part_step m row k h i = rw (less_one m k h, drop-cons row k 0 i, ← add-one k)

and-false : (b : Bool) → (b && false) ≡ false
and-false true = refl
and-false false = refl

module _ {ea eb el need row : List ℕ} {k : ℕ} (s : Shape ea eb el need row k) (more : k ≡ length ea → ⊥) where
  abbrev rest : Row
  rest = part (length ea) row (k + 1)

  matching-step : (f : Bool) → f ≡ free_at ea eb el need k → (x : ℕ) → get_or row k 0 ≡ x
      → matching_from ea eb el need (part (length ea) row k) k
      ≡ ((leb x 1 && is_row (length ea - (k + 1)) rest)
      && pick (eqb x 0) (pairs_up (bonds_from ea eb el (k + 1)) need rest) (f && pairs_up (bonds_from ea eb el (k + 1)) (mark_at ea eb need k 0) rest))
  unfolding is_row pairs_up
  matching-step f e x g =
      ap (λ (r : Row). matching_from ea eb el need r k) (part_step (length ea) row k (here s more) (in_row s more))
      ∙ ap (λ (n : ℕ). is_row n (get_or row k 0 ∷ rest) && pairs_up (bonds_from ea eb el k) need (get_or row k 0 ∷ rest)) (less_one (length ea) k (here s more))
      ∙ ap (λ (l : List Bond). is_row (suc (length ea - (k + 1))) (get_or row k 0 ∷ rest) && pairs_up l need (get_or row k 0 ∷ rest))
      (bonds-step ea eb el k (here s more) (here2 s more) (here3 s more))
      ∙ ap (λ (y : ℕ). (leb y 1 && is_row (length ea - (k + 1)) rest)
      && pick (eqb y 0) (pairs_up (bonds_from ea eb el (k + 1)) need rest) (free_at ea eb el need k && pairs_up (bonds_from ea eb el (k + 1)) (mark_at ea eb need k 0) rest)) g
      ∙ ap (λ (b : Bool). (leb x 1 && is_row (length ea - (k + 1)) rest)
      && pick (eqb x 0) (pairs_up (bonds_from ea eb el (k + 1)) need rest) (b && pairs_up (bonds_from ea eb el (k + 1)) (mark_at ea eb need k 0) rest)) (sym e)

  pub matching-zero : get_or row k 0 ≡ 0 → matching_from ea eb el need (part (length ea) row k) k ≡ matching_from ea eb el need rest (k + 1)
  matching-zero g = matching-step (free_at ea eb el need k) refl 0 g

  pub matching-other : (get_or row k 0 ≡ 0 → ⊥) → (get_or row k 0 ≡ 1 → ⊥) → matching_from ea eb el need (part (length ea) row k) k ≡ false
  matching-other g h = matching-step (free_at ea eb el need k) refl (get_or row k 0) refl ∙ rw (lt-leb (get_or row k 0) 1 (omega arith))

  pub matching-not : {f : Bool} → f ≡ free_at ea eb el need k → f ≡ false → get_or row k 0 ≡ 1 → matching_from ea eb el need (part (length ea) row k) k ≡ false
  matching-not e n g = matching-step false (sym n ∙ e) 1 g ∙ and-false (is_row (length ea - (k + 1)) rest)

  pub matching-one : {f : Bool} → f ≡ free_at ea eb el need k → f ≡ true → get_or row k 0 ≡ 1
      → matching_from ea eb el need (part (length ea) row k) k ≡ matching_from ea eb el (mark_at ea eb need k 0) rest (k + 1)
  matching-one e n g = matching-step true (sym n ∙ e) 1 g

  pub matching-chosen : {f : Bool} → f ≡ free_at ea eb el need k → f ≡ true → get_or row k 0 ≡ 1 → {mid need1 need2 : List ℕ} {r : Bool} → mid ≡ mark_at ea eb need k 0
      → (r ≡ matching_from ea eb el mid rest (k + 1)) × (need1 ≡ mid) → need2 ≡ mark_at ea eb need1 k 1
      → (r ≡ matching_from ea eb el need (part (length ea) row k) k) × (need2 ≡ need)
  matching-chosen e n g marked told unmarked = (
    told.0 ∙ ap (λ (l : List ℕ). matching_from ea eb el l rest (k + 1)) marked ∙ sym (matching-one e n g),
    unmarked ∙ ap (λ (l : List ℕ). mark_at ea eb l k 1) (told.1 ∙ marked) ∙ restore ea eb el need k (sym e ∙ n),
  )

  -- a matching with 1 at k: the bond can be chosen
  pub matching-free : get_or row k 0 ≡ 1 → matching_from ea eb el need (part (length ea) row k) k ≡ true → free_at ea eb el need k ≡ true
  matching-free g h = go (free_at ea eb el need k) refl
    where
      go : (f : Bool) → free_at ea eb el need k ≡ f → free_at ea eb el need k ≡ true
      go true e = e
      go false e = cc (matching-not {f = false} (sym e) refl g)

  -- what is left of it behind the bond k, chosen or not
  pub matching-rest : get_or row k 0 ≡ 1 → matching_from ea eb el need (part (length ea) row k) k ≡ true → {mid : List ℕ} → mid ≡ mark_at ea eb need k 0 → matching_from ea eb el mid rest (k + 1) ≡ true
  matching-rest g h e = rw e (sym (matching-one {f = true} (sym (matching-free g h)) refl g) ∙ h)

  pub matching-0or1 : matching_from ea eb el need (part (length ea) row k) k ≡ true → (get_or row k 0 ≡ 1 → ⊥) → get_or row k 0 ≡ 0
  matching-0or1 h n = go (ℕ_discrete (get_or row k 0) 0)
    where
      go : Dec (get_or row k 0 ≡ 0) → get_or row k 0 ≡ 0
      go (yes e) = e
      go (no e) = absurd (let z : ◌≡◌ {A = Bool} false true = sym (matching-other e n) ∙ h in never z)

pub matching-end : {ea eb el need row : List ℕ} {k : ℕ} → Shape ea eb el need row k → k ≡ length ea → matching_from ea eb el need (part (length ea) row k) k ≡ none_flagged need
unfolding pairs_up is_row
matching-end {ea} {eb} {el} {k = k} s h =
    let z : length ea - k ≡ 0 = omega arith in
    rw (z, bonds-end ea eb el k (omega arith))
