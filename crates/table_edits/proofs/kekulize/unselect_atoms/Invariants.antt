use Rattle.loops.proofs.Loops.{Edited}
use Rattle.table.specs.Edits.{unselected}
use Rattle.table_edits.proofs.kekulize.unselect_atoms.Given as goal

abbrev pub invariant-loop-i : goal.invariant-loop-i
invariant-loop-i l = Edited unselected l.initial.atoms l.n l.i l.atoms
