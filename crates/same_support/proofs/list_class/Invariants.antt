use Prim.Native.Nat.{◌-◌, ◌≤◌}
use Rattle.same_support.proofs.list_class.Given as goal

abbrev pub invariant-loop-b : goal.invariant-loop-b
invariant-loop-b l = l.b ≤ l.n
