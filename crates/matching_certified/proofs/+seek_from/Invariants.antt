use Prim.Native.Nat.{◌-◌}
use lib.ListN.{length}
use Rattle.matching_certified.proofs.Along.{Along}
use Rattle.matching_certified.proofs.+seek_from.Given as goal

abbrev pub decreases-seek_from : goal.decreases-seek_from
decreases-seek_from l = length l.links.now.ends.first.now - l.k.0

abbrev pub invariant-loop-at : goal.invariant-loop-at
invariant-loop-at l = Along l.links.ends.first.now l.links.ends.second.now l.links.elided.now l.initial.need l.initial.row l.initial.at l.at l.need l.row
