use Prim.Native.Nat.{◌-◌, ◌≤◌}
use Rattle.same_decide.proofs.fill_marks.Given as goal

abbrev pub invariant-loop-k : goal.invariant-loop-k
invariant-loop-k l = l.k ≤ l.fn.part.m
