use Rattle.loops.proofs.Loops.{Left}
use Rattle.redrawing_check.specs.Certificate.{ends_kept}
use Rattle.redrawing_check.proofs.same_bonds.Given as goal

abbrev pub invariant-loop-k : goal.invariant-loop-k
invariant-loop-k l = Left (ends_kept l.bonds1 l.bonds2 l.t l.u) l.m l.k
