-- Swapping any two places of an order turns odd into even and even into odd. Assumes nothing.
use Prim.Native.Nat.{ℕ, zero, suc, ◌<◌}
use native.Mathlib.Omega.{arith}
use mathlib.Core.Path.{◌≡◌, refl, sym, ap, ◌∙◌}
use mathlib.Core.Bool.{Bool, true, false, not}
use mathlib.Core.List.{List, [], ◌∷◌}
use lib.Dec.{eqb, ltb}
use lib.ListN.{length, get_or, set}
use borrow.Author.Tests.{eqb-false, ltb-false, ltb-true, lt-ltb, le-ltb, not-true}
use Rattle.loops.proofs.Loops.{and_left, and_right}
use Rattle.parity.specs.Parity.{flip_if, oddly, odd_pairs, over, odd, swapped, absent, unlike, Swaps, none, more, odd_number, below, ascending}
use Rattle.parity.proofs.Flips.{not-not, not-flip, adjacent-flips, ahead-flips}
use Rattle.parity.proofs.Items.{oddly-perm, unlike-perm, head-perm, swapped-perm}

-- of two numbers that differ, exactly one is over the other
pub over-turned : (x y : ℕ) → (x ≡ y → ⊥) → over y x ≡ not (over x y)
over-turned x y n = go (ltb y x) refl
  where
    go : (b : Bool) → ltb y x ≡ b → ltb x y ≡ not b
    go true e = let l = ltb-true y x e in le-ltb x y (omega arith)
    go false e = let l = ltb-false y x e in lt-ltb x y (omega (arith, n))

-- what is absent differs from what stands at a place
pub absent-at : (x : ℕ) (l : List ℕ) (j : ℕ) → absent x l ≡ true → j < length l → x ≡ get_or l j 0 → ⊥
unfolding absent
absent-at x [] j h k e = absurd (omega arith)
absent-at x (y ∷ l) zero h k e = eqb-false x y (not-true (eqb x y) (and_left (not (eqb x y)) (absent x l) h)) e
absent-at x (y ∷ l) (suc j) h k e = absent-at x l j (and_right (not (eqb x y)) (absent x l) h) (omega arith) e

-- the first item swapped with the one at a place: past the second item, with the rest, and back, three turns
head-flips : (x : ℕ) (l : List ℕ) (j : ℕ) → absent x l ≡ true → unlike l ≡ true → j < length l → odd_pairs over (get_or l j 0 ∷ set l j x) ≡ not (odd_pairs over (x ∷ l))
unfolding absent unlike
head-flips x [] j a u h = absurd (omega arith)
head-flips x (y ∷ l) zero a u h = adjacent-flips over x y l (over-turned x y (absent-at x (y ∷ l) 0 a h))
head-flips x (y ∷ l) (suc j) a u h =
    let k : j < length l = omega arith in
    let yz = absent-at y l j (and_left (absent y l) (unlike l) u) k in
    let xy = absent-at x (y ∷ l) 0 a (omega arith) in
    let rest = head-flips x l j (and_right (not (eqb x y)) (absent x l) a) (and_right (absent y l) (unlike l) u) k in
    adjacent-flips over y (get_or l j 0) (set l j x) (over-turned y (get_or l j 0) yz)
    ∙ ap not (ahead-flips over y (get_or l j 0 ∷ set l j x) (x ∷ l) (oddly-perm (over y) (head-perm x l j k)) rest)
    ∙ ap (λ (b : Bool). not (not b)) (adjacent-flips over x y l (over-turned x y xy))
    ∙ not-not (not (odd_pairs over (x ∷ y ∷ l)))

pairs-swapped : (l : List ℕ) (i j : ℕ) → unlike l ≡ true → (i ≡ j → ⊥) → i < length l → j < length l → odd_pairs over (swapped l i j) ≡ not (odd_pairs over l)
unfolding unlike
pairs-swapped [] i j u n h k = absurd (omega arith)
pairs-swapped (x ∷ l) zero zero u n h k = absurd (n refl)
pairs-swapped (x ∷ l) zero (suc j) u n h k = head-flips x l j (and_left (absent x l) (unlike l) u) (and_right (absent x l) (unlike l) u) (omega arith)
pairs-swapped (x ∷ l) (suc i) zero u n h k = head-flips x l i (and_left (absent x l) (unlike l) u) (and_right (absent x l) (unlike l) u) (omega arith)
pairs-swapped (x ∷ l) (suc i) (suc j) u n h k =
    ahead-flips over x (swapped l i j) l (oddly-perm (over x) (swapped-perm l i j (omega arith) (omega arith)))
    (pairs-swapped l i j (and_right (absent x l) (unlike l) u) (λ e. n (ap suc e)) (omega arith) (omega arith))

-- THE STATEMENT (02, P8): "swapping any two of its places turns odd into even and even into odd", for an order of any length
pub swap-flips : (l : List ℕ) (i j : ℕ) → unlike l ≡ true → (i ≡ j → ⊥) → i < length l → j < length l → odd (swapped l i j) ≡ not (odd l)
unfolding odd
swap-flips l i j u n h k = pairs-swapped l i j u n h k

-- any number of swaps
swaps-unlike : {p q : List ℕ} {k : ℕ} → Swaps p q k → unlike p ≡ true → unlike q ≡ true
swaps-unlike none u = u
swaps-unlike (more {p} {q} i j n h k s) u = unlike-perm (swapped-perm q i j h k) ∙ swaps-unlike s u

pub swaps-turn : {p q : List ℕ} {k : ℕ} → Swaps p q k → unlike p ≡ true → odd q ≡ flip_if (odd_number k) (odd p)
unfolding odd_number
swaps-turn none u = refl
swaps-turn (more {p} {q} {k} i j n h g s) u = swap-flips q i j (swaps-unlike s u) n h g ∙ ap not (swaps-turn s u) ∙ sym (not-flip (odd_number k) (odd p))

-- an ascending order is even
below-even : (x : ℕ) (l : List ℕ) → below x l ≡ true → oddly (over x) l ≡ false
unfolding below oddly
below-even x [] h = refl
below-even x (y ∷ l) h =
    let q = ltb-true x y (and_left (ltb x y) (below x l) h) in
    ap (λ (b : Bool). flip_if b (oddly (over x) l)) (le-ltb y x (omega arith)) ∙ below-even x l (and_right (ltb x y) (below x l) h)

pub ascending-even : (l : List ℕ) → ascending l ≡ true → odd l ≡ false
unfolding ascending odd odd_pairs
ascending-even [] h = refl
ascending-even (x ∷ l) h =
    ap (λ (b : Bool). flip_if b (odd_pairs over l)) (below-even x l (and_left (below x l) (ascending l) h)) ∙ ascending-even l (and_right (below x l) (ascending l) h)

-- so the parity of an order is that of every number of swaps that sorts it
pub sorting-swaps : {p q : List ℕ} {k : ℕ} → Swaps p q k → unlike p ≡ true → ascending q ≡ true → odd p ≡ odd_number k
sorting-swaps {p} {q} {k} s u a = go (odd_number k) (odd p) (sym (swaps-turn s u) ∙ ascending-even q a)
  where
    go : (a b : Bool) → flip_if a b ≡ false → b ≡ a
    go true true e = refl
    go true false e = sym e
    go false b e = e
