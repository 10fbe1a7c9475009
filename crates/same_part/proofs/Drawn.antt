-- Cells drawn with fewer open bonds. Assumes nothing.
use mathlib.Core.Path.{◌≡◌, refl, sym}
use mathlib.Core.Bool.{Bool, true, false}
use Prim.Native.Nat.{ℕ, ◌+◌, ◌<◌, ◌≤◌}
use native.Mathlib.Omega.{arith}
use lib.Dec.{ltb}
use borrow.Author.Tests.{ltb-true, ltb-false}
use Rattle.loops.specs.Loop.{pick}
use Rattle.same_open.specs.Open.{open_from, open_bond, Draws}

-- a cell is closed or open
by-cell : {A : Type 0} (u : ℕ) → (u < open_from → A) → (open_from ≤ u → A) → A
by-cell {A} u f g = go (ltb u open_from) refl
  where
    go : (b : Bool) → ltb u open_from ≡ b → A
    go true e = f (ltb-true u open_from e)
    go false e = g (ltb-false u open_from e)

-- cells that are equal
pub draws-same : {o u : ℕ} → o ≡ u → Draws o u
draws-same e = record { closed = λ i. sym e; opened = λ i. omega arith }

-- an open bond stands for any order
pub draws-open : {o : ℕ} → 0 < o → Draws o open_bond
draws-open h = record { closed = λ i. absurd (omega arith); opened = λ i. h }

-- cells that are added up
pub draws-add : {o u x y : ℕ} → Draws o u → Draws x y → Draws (o + x) (u + y)
draws-add {o} {u} {x} {y} d e = record { closed = shut; opened = free }
  where
    shut : u + y < open_from → u + y ≡ o + x
    shut i = omega (arith, d.closed (omega arith), e.closed (omega arith))

    free : open_from ≤ u + y → 0 < o + x
    free i =
        by-cell u
        (λ j. by-cell y (λ k. omega (arith, d.closed j, e.closed k)) (λ k. omega (arith, e.opened k)))
        (λ j. omega (arith, d.opened j))

pub draws-pick : {x y : ℕ} (z : Bool) → Draws x y → Draws (pick z x 0) (pick z y 0)
draws-pick true d = d
draws-pick false d = draws-same refl

pub draws-eq : {o o' u u' : ℕ} → o ≡ o' → u ≡ u' → Draws o' u' → Draws o u
draws-eq e f d = rw (e, f) d
