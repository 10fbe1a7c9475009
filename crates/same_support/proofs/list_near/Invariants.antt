use Prim.Native.Nat.{◌-◌, ◌≤◌}
use Rattle.same_support.proofs.list_near.Given as goal

abbrev pub invariant-loop-c : goal.invariant-loop-c
invariant-loop-c l = l.c ≤ 6
