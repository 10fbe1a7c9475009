use Prim.Native.Nat.{◌+◌, ◌≤◌}
use mathlib.Core.Path.{◌≡◌}
use lib.ListN.{length}
use Rattle.register.specs.Adding.{after_with}
use Rattle.register.proofs.store.store_all.Given as goal

abbrev pub invariant-loop-k : goal.invariant-loop-k
invariant-loop-k l = (l.r ≡ after_with l.n l.e l.tag l.body l.k l.initial.r) × (length l.r ≡ length l.initial.r) × (l.k ≤ length l.body + 7)
