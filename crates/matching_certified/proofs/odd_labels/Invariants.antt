use Rattle.matching_certified.proofs.Count.{Marking}
use Rattle.matching_certified.proofs.odd_labels.Given as goal

abbrev pub invariant-loop-i : goal.invariant-loop-i
invariant-loop-i l = Marking l.odd l.i l.n
