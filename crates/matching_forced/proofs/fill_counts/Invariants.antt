use Rattle.matching_forced.proofs.Tallies.{Tallied}
use Rattle.matching_forced.proofs.fill_counts.Given as goal

abbrev pub invariant-loop-i : goal.invariant-loop-i
invariant-loop-i l = Tallied l.links.ends.first.now l.links.ends.second.now l.links.elided.now l.need l.initial.counts l.i l.counts
