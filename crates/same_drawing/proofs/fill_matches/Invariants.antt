use Prim.Native.Nat.{◌-◌}
use Rattle.loops.proofs.Loops.{Edited, fills}
use Rattle.same_drawing.specs.Drawing.{match_cell}
use Rattle.same_drawing.proofs.fill_matches.Given as goal

abbrev pub invariant-loop-i : goal.invariant-loop-i
invariant-loop-i l = Edited (fills (match_cell l.atoms1 l.keys1 l.atoms2 l.keys2)) l.initial.ok l.end l.i l.ok
