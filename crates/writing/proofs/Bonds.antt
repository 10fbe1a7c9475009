-- The bonds of valid tables as the walk's list of bonds: each end below the atom count. Assumes nothing.
use mathlib.Core.List.{List}
use Prim.Native.Nat.{ℕ, zero, suc, ◌+◌, ◌<◌, ◌≤◌}
use native.Mathlib.Omega.{arith}
use lib.IntN.{ℤ}
use Rattle.loops.specs.Loop.{up_to}
use Rattle.table.specs.Valid.{Valid}
use Rattle.table.proofs.Valid.{bond-row}
use Rattle.writing_walk.specs.Same.{All, none, more}
use Rattle.writing_walk.proofs.Walk.{Inside}
use Rattle.writing.specs.Write.{walk_bond, bond_list}

pub all-up_to : {A : Type 0} (P : A → Type 0) (f : ℕ → A) (k m : ℕ) → ((j : ℕ) → k ≤ j → j < k + m → P (f j)) → All P (up_to f k m)
unfolding up_to
all-up_to P f k zero h = none
all-up_to P f k (suc m) h = more (h k (omega arith) (omega arith)) (all-up_to P f (suc k) m (λ j a b. h j (omega arith) (omega arith)))

pub inside : {atoms bonds : List ℤ} {n m : ℕ} → Valid atoms bonds n m → Inside n (bond_list bonds m)
inside {bonds = bonds} {n = n} {m = m} v = all-up_to (λ b. (b.lo < b.hi) × (b.hi < n)) (walk_bond bonds) 0 m (λ j a b. (let r = bond-row v j (omega arith) in (r.order, r.second)))
