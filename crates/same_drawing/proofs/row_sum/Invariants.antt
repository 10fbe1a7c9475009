use Prim.Native.Nat.{◌-◌, ◌*◌, ◌≤◌}
use Rattle.loops.proofs.Loops.{Ran}
use Rattle.same_keys.specs.Keys.{prime}
use Rattle.same_drawing.specs.Drawing.{add_weight}
use Rattle.same_drawing.proofs.row_sum.Given as goal

abbrev pub invariant-loop-k : goal.invariant-loop-k
invariant-loop-k l = Ran (add_weight l.bonds l.keys l.row) 0 l.m l.k l.sum × (l.sum ≤ 3 * prime * l.k)
