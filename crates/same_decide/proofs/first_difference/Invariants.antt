use Prim.Native.Nat.{◌-◌, ◌≤◌}
use Rattle.same_decide.proofs.first_difference.Given as goal

abbrev pub invariant-loop-k : goal.invariant-loop-k
invariant-loop-k l = (l.from ≤ l.k) × (l.k ≤ l.m)
