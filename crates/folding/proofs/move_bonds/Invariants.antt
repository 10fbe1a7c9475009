use Rattle.folding.proofs.Paths.{Placed}
use Rattle.folding.proofs.move_bonds.Given as goal

abbrev pub invariant-loop-i : goal.invariant-loop-i
invariant-loop-i l = Placed l.numbers l.initial.bonds l.m l.i l.bonds l.k
