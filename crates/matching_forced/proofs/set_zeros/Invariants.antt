use Rattle.matching_forced.proofs.Listed.{Clearing}
use Rattle.matching_forced.proofs.set_zeros.Given as goal

abbrev pub invariant-loop-i : goal.invariant-loop-i
invariant-loop-i l = Clearing l.initial.row l.pairs l.n l.i l.row
