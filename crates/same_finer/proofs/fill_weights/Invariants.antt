use Prim.Native.Nat.{◌-◌}
use Rattle.loops.proofs.Loops.{Edited, fills}
use Rattle.same_finer.specs.Finer.{weight_cell}
use Rattle.same_finer.proofs.fill_weights.Given as goal

abbrev pub invariant-loop-i : goal.invariant-loop-i
invariant-loop-i l = Edited (fills (weight_cell l.o)) l.initial.w l.end l.i l.w
