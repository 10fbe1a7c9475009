use Rattle.loops.proofs.Loops.{Left}
use Rattle.redrawing_check.specs.Certificate.{cells_kept}
use Rattle.redrawing_check.proofs.same_atoms.Given as goal

abbrev pub invariant-loop-a : goal.invariant-loop-a
invariant-loop-a l = Left (cells_kept l.atoms1 l.atoms2 l.t) l.n l.a
