-- The count of hydrogens: it is 01's, and it is small. Assumes nothing.
use mathlib.Core.Path.{◌≡◌, refl}
use mathlib.Core.Bool.{Bool, true, false, ◌&&◌}
use mathlib.Core.List.{List, [], ◌∷◌}
use Prim.Native.Nat.{ℕ, ◌+◌, ◌-◌, ◌≤◌}
use native.Mathlib.Omega.{arith}
use lib.Dec.{eqb, leb}
use lib.ListN.{take}
use borrow.Author.Tests.{leb-true, leb-false}
use Rattle.loops.specs.Loop.{pick}
use Rattle.valence.specs.Valence.{targets, head_or0, first_target, first_fitting, reached_in, values_of, hydrogens_of, implied, overfull}
use Rattle.valence.specs.declared.Reached.{Reached}
use Rattle.valence.specs.declared.Reached.TheVariants.{Target, AboveAll}
use Rattle.loops.proofs.Loops.{and_left, and_right}
use Rattle.valence.proofs.Laws.{each-targets, first-within}

-- 01: "the first target less the bond sum that is not negative, and 0 if there is none" (000, algorithm 1)
unfoldable pub first_room : List ℕ → ℕ → ℕ
first_room [] sum = 0
first_room (t ∷ ts) sum = pick (leb sum t) (t - sum) (first_room ts sum)

-- a selected one "starts its sum at 1 and uses its first target only; below zero is 0"
unfoldable pub count_of : ℕ → ℕ → ℕ → ℕ
count_of e selected sum = pick (eqb selected 1) (first_target e - (sum + 1)) (first_room (targets e) sum)

abbrev left : Reached → ℕ → ℕ
left r used = (values_of r).target - used

room-left : (l : List ℕ) (s : ℕ) → left (first_fitting l s) (s + 0) ≡ first_room l s
unfolding first_fitting first_room
room-left [] s = omega arith
room-left (t ∷ ts) s = go (leb s t) (room-left ts s)
  where
    go : (b : Bool) → left (first_fitting ts s) (s + 0) ≡ first_room ts s → left (pick b (Target t) (first_fitting ts s)) (s + 0) ≡ pick b (t - s) (first_room ts s)
    go true h = omega arith
    go false h = h

plain-left : (l : List ℕ) (s : ℕ) → left (reached_in l s) (s + 0) ≡ first_room l s
unfolding reached_in first_room
plain-left [] s = omega arith
plain-left (t ∷ ts) s = room-left (t ∷ ts) s

selected-left : (l : List ℕ) (s : ℕ) → left (reached_in (take 1 l) s) (s + 1) ≡ head_or0 l - (s + 1)
unfolding reached_in first_fitting
selected-left [] s = refl
selected-left (t ∷ ts) s = go (leb s t) refl
  where
    go : (b : Bool) → leb s t ≡ b → left (pick b (Target t) AboveAll) (s + 1) ≡ t - (s + 1)
    go true e = refl
    go false e = omega (arith, leb-false s t e)

-- THE STATEMENT: the count in the answer is 01's
pub count-is : (e selected sum : ℕ) → implied e selected sum ≡ count_of e selected sum
unfolding hydrogens_of count_of first_target
count-is e selected sum = go (eqb selected 1)
  where
    go : (t : Bool) → left (reached_in (pick t (take 1 (targets e)) (targets e)) sum) (sum + pick t 1 0) ≡ pick t (head_or0 (targets e) - (sum + 1)) (first_room (targets e) sum)
    go true = selected-left (targets e) sum
    go false = plain-left (targets e) sum

-- ---- at most six
abbrev low : List ℕ → Bool
low [] = true
low (t ∷ ts) = leb t 6 && low ts

room-low : (l : List ℕ) (s : ℕ) → low l ≡ true → first_room l s ≤ 6
unfolding first_room
room-low [] s h = omega arith
room-low (t ∷ ts) s h = go (leb s t) (room-low ts s (and_right (leb t 6) (low ts) h))
  where
    go : (b : Bool) → first_room ts s ≤ 6 → pick b (t - s) (first_room ts s) ≤ 6
    go true g = omega (arith, leb-true t 6 (and_left (leb t 6) (low ts) h))
    go false g = g

pub implied-within : (e selected sum : ℕ) → implied e selected sum ≤ 6
unfolding count_of
implied-within e selected sum = rw (count-is e selected sum) (go (eqb selected 1))
  where
    go : (t : Bool) → pick t (first_target e - (sum + 1)) (first_room (targets e) sum) ≤ 6
    go true = omega (arith, first-within e)
    go false = room-low (targets e) sum (each-targets low refl refl refl refl refl refl refl e)

-- ---- 02, P10: "`*` has no target and is never over-full"
pub star-never : (selected sum : ℕ) → overfull 0 selected sum ≡ 0
unfolding hydrogens_of targets reached_in
star-never selected sum = go (eqb selected 1)
  where
    go : (t : Bool) → (values_of (reached_in (pick t (take 1 (targets 0)) (targets 0)) sum)).overfull ≡ 0
    go true = refl
    go false = refl
