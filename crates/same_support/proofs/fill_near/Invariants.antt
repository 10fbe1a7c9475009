use Prim.Native.Nat.{◌-◌, ◌≤◌}
use Rattle.same_support.proofs.fill_near.Given as goal

abbrev pub invariant-loop-a : goal.invariant-loop-a
invariant-loop-a l = l.a ≤ l.n
