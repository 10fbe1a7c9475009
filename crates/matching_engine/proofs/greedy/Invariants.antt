use Rattle.matching_engine.proofs.Taking.{Taking}
use Rattle.matching_engine.proofs.greedy.Given as goal

abbrev pub invariant-loop-at : goal.invariant-loop-at
invariant-loop-at l = Taking l.links.ends.first.now l.links.ends.second.now l.links.elided.now l.initial.need l.initial.row l.at l.need l.row
