use Rattle.matching_certified.proofs.Count.{Counting}
use Rattle.matching_certified.proofs.cut_size.Given as goal

abbrev pub invariant-loop-v : goal.invariant-loop-v
invariant-loop-v l = Counting l.need l.lab 0 l.v l.n
