use Rattle.loops.proofs.Loops.{Edited, fills}
use Rattle.redrawing_check.specs.Certificate.{sum_at}
use Rattle.redrawing_check.proofs.fill_sums.Given as goal

abbrev pub invariant-loop-a : goal.invariant-loop-a
invariant-loop-a l = Edited (fills (sum_at l.sums l.flags)) l.initial.settled l.n l.a l.settled
