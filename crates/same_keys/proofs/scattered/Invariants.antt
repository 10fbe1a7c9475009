use Prim.Native.Nat.{◌≤◌}
use Rattle.same_keys.proofs.scattered.Given as goal

abbrev pub invariant-loop-a : goal.invariant-loop-a
invariant-loop-a l = 1 ≤ l.a
