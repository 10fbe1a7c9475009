use Rattle.loops.proofs.Loops.{Edited}
use Rattle.table.specs.Edits.{doubled_by}
use Rattle.table_edits.proofs.kekulize.double_bonds.Given as goal

abbrev pub invariant-loop-i : goal.invariant-loop-i
invariant-loop-i l = Edited (doubled_by l.row) l.initial.bonds l.m l.i l.bonds
