use lib.ListN.{length}
use Rattle.matching.specs.Graph.{nth_bond}
use Rattle.matching.specs.Model.{free, bonds_of}
use Rattle.matching_forced.proofs.Counts.{Sought}
use Rattle.matching_forced.proofs.lowest_free.Given as goal

abbrev pub invariant-loop-i : goal.invariant-loop-i
invariant-loop-i l = Sought (λ k. free (nth_bond (bonds_of l.links.ends.first.now l.links.ends.second.now l.links.elided.now) k) l.need) (length l.links.ends.first.now) l.i
