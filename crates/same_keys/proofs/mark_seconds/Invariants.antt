use Prim.Native.Nat.{◌≤◌}
use Rattle.same_keys.proofs.mark_seconds.Given as goal

abbrev pub invariant-loop-k : goal.invariant-loop-k
invariant-loop-k l = l.k ≤ l.m
