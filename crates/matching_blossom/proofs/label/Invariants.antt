use Prim.Native.Nat.{◌≤◌}
use Rattle.matching_blossom.proofs.label.Given as goal

abbrev pub invariant-loop-v : goal.invariant-loop-v
invariant-loop-v l = l.v ≤ l.n
