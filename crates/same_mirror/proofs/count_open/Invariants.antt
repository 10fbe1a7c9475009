use Prim.Native.Nat.{◌-◌, ◌≤◌}
use Rattle.same_mirror.proofs.count_open.Given as goal

abbrev pub invariant-loop-b : goal.invariant-loop-b
invariant-loop-b l = (l.count ≤ l.b) × (l.b ≤ l.n)
