use Prim.Native.Nat.{◌*◌, ◌≤◌}
use Rattle.loops.proofs.Loops.{Ran}
use Rattle.same_keys.specs.Keys.{prime, mixed}
use Rattle.drawing_key.specs.Key.{add_key, mixed_again}
use Rattle.drawing_key.proofs.sum_up.Given as goal

abbrev pub invariant-loop-i : goal.invariant-loop-i
invariant-loop-i l = Ran (add_key mixed l.keys) 0 l.n l.i l.low × Ran (add_key mixed_again l.keys) 0 l.n l.i l.high × (l.low ≤ prime * l.i) × (l.high ≤ prime * l.i)
