use lib.ListN.{length}
use Rattle.matching.specs.Model.{bonds_of}
use Rattle.matching_forced.specs.Forced.{free_of}
use Rattle.matching_forced.proofs.Counts.{Sought}
use Rattle.matching_forced.proofs.free_bond.Given as goal

abbrev pub invariant-loop-i : goal.invariant-loop-i
invariant-loop-i l = Sought (free_of (bonds_of l.links.ends.first.now l.links.ends.second.now l.links.elided.now) l.need l.v.0) (length l.links.ends.first.now) l.i
