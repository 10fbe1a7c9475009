use Rattle.matching_certified.proofs.Reason.{Passing}
use Rattle.matching_certified.proofs.all_fine.Given as goal

abbrev pub invariant-loop-j : goal.invariant-loop-j
invariant-loop-j l = Passing l.links.ends.first.now l.links.ends.second.now l.links.elided.now l.need l.lab l.initial.j l.j
