use Prim.Native.Nat.{◌*◌, ◌≤◌}
use Rattle.loops.proofs.Loops.{Ran}
use Rattle.same_keys.specs.Keys.{prime, add_mixed}
use Rattle.same_keys.proofs.key_sum.Given as goal

abbrev pub invariant-loop-i : goal.invariant-loop-i
invariant-loop-i l = Ran (add_mixed l.keys) 0 l.n l.i l.sum × (l.sum ≤ prime * l.i)
