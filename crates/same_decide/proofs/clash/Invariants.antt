use Prim.Native.Nat.{◌+◌, ◌-◌, ◌≤◌}
use Rattle.same_decide.proofs.clash.Given as goal

abbrev pub invariant-loop-to : goal.invariant-loop-to
invariant-loop-to l = l.to ≤ l.part.m + 1

abbrev pub decreases-loop-to : goal.decreases-loop-to
decreases-loop-to l = l.part.m + 2 - l.to
