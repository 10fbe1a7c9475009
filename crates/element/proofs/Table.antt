-- A rule of a table, proved at all of its places by one test that is computed. Assumes nothing.
use mathlib.Core.Path.{◌≡◌, refl}
use mathlib.Core.Bool.{Bool, true, false, ◌&&◌}
use mathlib.Core.List.{List, [], ◌∷◌}
use Prim.Native.Nat.{ℕ, zero, suc, ◌+◌, ◌<◌}
use native.Mathlib.Omega.{arith}
use native.Mathlib.Nat.{add-zero}
use lib.Dec.{eqb}
use lib.ListN.{length, get_or}
use borrow.Author.Tests.{eqb-true}
use Rattle.loops.specs.Loop.{pick}
use Rattle.loops.proofs.Loops.{and_left, and_right}

-- the rule f gives each entry of the list at its place, counted from i
abbrev pub follows : (ℕ → ℕ) → ℕ → List ℕ → Bool
follows f i [] = true
follows f i (x ∷ xs) = eqb x (f i) && follows f (suc i) xs

from : (f : ℕ → ℕ) (xs : List ℕ) (i k : ℕ) → follows f i xs ≡ true → k < length xs → get_or xs k 0 ≡ f (i + k)
from f [] i k t h = absurd (omega arith)
from f (x ∷ xs) i zero t h = simp add-zero (eqb-true x (f i) (and_left (eqb x (f i)) (follows f (suc i) xs) t))
from f (x ∷ xs) i (suc k) t h =
    let e : i + suc k ≡ suc i + k = omega arith in
    rw e (from f xs (suc i) k (and_right (eqb x (f i)) (follows f (suc i) xs) t) (omega arith))

at_place : (f : ℕ → ℕ) (xs : List ℕ) (k : ℕ) → follows f 0 xs ≡ true → k < length xs → get_or xs k 0 ≡ f k
at_place f xs k t h = let e : 0 + k ≡ k = omega arith in rw e at (from f xs 0 k t h)

by-test : (f : ℕ → ℕ) (n : ℕ) (xs : List ℕ) (k : ℕ) (t : Bool) → k < n → (follows f 0 xs && eqb (length xs) n) ≡ t → get_or xs k 0 ≡ pick t (f k) (get_or xs k 0)
by-test f n xs k true h e =
    at_place f xs k (and_left (follows f 0 xs) (eqb (length xs) n) e)
    (omega (arith, eqb-true (length xs) n (and_right (follows f 0 xs) (eqb (length xs) n) e)))
by-test f n xs k false h e = refl

-- what stands at a place of a table of n entries, by a test of the whole table. A table in code has no name in a proof: `rw` finds it
pub rule : (f : ℕ → ℕ) (n : ℕ) (xs : List ℕ) (k : ℕ) → k < n → get_or xs k 0 ≡ pick (follows f 0 xs && eqb (length xs) n) (f k) (get_or xs k 0)
rule f n xs k h = by-test f n xs k (follows f 0 xs && eqb (length xs) n) h refl
