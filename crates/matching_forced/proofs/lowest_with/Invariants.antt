use lib.ListN.{length}
use Rattle.matching_forced.specs.Steps.{with_count}
use Rattle.matching_forced.proofs.Counts.{Sought}
use Rattle.matching_forced.proofs.lowest_with.Given as goal

abbrev pub invariant-loop-v : goal.invariant-loop-v
invariant-loop-v l = Sought (with_count l.need l.counts l.d) (length l.need) l.v
