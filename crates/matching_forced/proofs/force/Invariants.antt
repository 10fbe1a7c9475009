use Rattle.matching.specs.Model.{bonds_of}
use Rattle.matching_forced.specs.Steps.{free_total}
use Rattle.matching_forced.proofs.Filling.{Filling}
use Rattle.matching_forced.proofs.force.Given as goal

abbrev pub invariant-loop-bond : goal.invariant-loop-bond
invariant-loop-bond l = Filling l.ends.first.now l.ends.second.now l.elided l.initial.need l.initial.pairs l.need l.pairs l.n

abbrev pub decreases-loop-bond : goal.decreases-loop-bond
decreases-loop-bond l = free_total (bonds_of l.ends.first.now l.ends.second.now l.elided) l.need
