use Prim.Native.Nat.{◌-◌}
use Rattle.loops.proofs.Loops.{Edited, fills}
use Rattle.same_decide.specs.Decide.{turned_cell}
use Rattle.same_decide.proofs.turn_over.Given as goal

abbrev pub invariant-loop-i : goal.invariant-loop-i
invariant-loop-i l = Edited (fills (turned_cell l.ok)) l.initial.turned 4096 l.i l.turned
