-- The first place where a test holds. Assumes nothing.
use Prim.Native.Nat.{ℕ, zero, suc, ◌<◌}
use native.Mathlib.Omega.{arith}
use native.Mathlib.Decide.{ℕ_discrete}
use mathlib.Core.Path.{◌≡◌, refl}
use mathlib.Core.Bool.{Bool, true, false}
use Rattle.loops.specs.Loop.{pick}
use Rattle.withdrawal.specs.Withdrawal.{Place, nowhere, at, or_else, first_of}

-- the test holds at the place found, or at none of n places
abbrev pub Found : (ℕ → Bool) → ℕ → Place → Type 0
Found f n nowhere = (p : ℕ) → p < n → f p ≡ false
Found f n (at p) = (p < n) × (f p ≡ true)

one_more : (f : ℕ → Bool) (n : ℕ) (q : Place) → Found f n q → (b : Bool) → f n ≡ b → Found f (suc n) (or_else q (pick b (at n) nowhere))
one_more f n (at p) w b e = (omega (arith, w.0), w.1)
one_more f n nowhere w true e = (omega arith, e)
one_more f n nowhere w false e = λ p l. go p l (ℕ_discrete p n)
  where
    go : (p : ℕ) → p < suc n → Dec (p ≡ n) → f p ≡ false
    go p l (yes d) = rw d e
    go p l (no d) = w p (omega arith)

pub found : (f : ℕ → Bool) (n : ℕ) → Found f n (first_of f n)
unfolding first_of
found f zero = λ p l. absurd (omega arith)
found f (suc n) = one_more f n (first_of f n) (found f n) (f n) refl
