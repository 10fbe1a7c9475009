use Prim.Native.Nat.{◌-◌}
use Rattle.loops.proofs.Loops.{Edited, fills}
use Rattle.conformation.specs.Sides.{side_of}
use Rattle.conformation.proofs.fill.Given as goal

abbrev pub invariant-loop-i : goal.invariant-loop-i
invariant-loop-i l = Edited (fills (side_of l.bonds l.m)) l.initial.row l.m l.i l.row
