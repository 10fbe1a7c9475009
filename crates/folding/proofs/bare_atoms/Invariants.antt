use Rattle.loops.proofs.Loops.{Edited}
use Rattle.folding.specs.Folding.{bare_atom}
use Rattle.folding.proofs.bare_atoms.Given as goal

abbrev pub invariant-loop-i : goal.invariant-loop-i
invariant-loop-i l = Edited bare_atom l.initial.atoms l.n l.i l.atoms
