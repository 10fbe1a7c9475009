use Prim.Native.Nat.{◌-◌, ◌<◌, ◌≤◌}
use Rattle.same_open.proofs.choose.Given as goal

abbrev pub invariant-loop-b : goal.invariant-loop-b
invariant-loop-b l = (l.v < l.n) × (l.b ≤ l.n)
