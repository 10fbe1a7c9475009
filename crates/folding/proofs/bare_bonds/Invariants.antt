use Rattle.loops.proofs.Loops.{Edited}
use Rattle.folding.specs.Folding.{bare_bond}
use Rattle.folding.proofs.bare_bonds.Given as goal

abbrev pub invariant-loop-i : goal.invariant-loop-i
invariant-loop-i l = Edited bare_bond l.initial.bonds l.m l.i l.bonds
