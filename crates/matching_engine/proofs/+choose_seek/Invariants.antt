use Prim.Native.Nat.{◌-◌, ◌*◌, ◌+◌}
use lib.ListN.{length}
use Rattle.matching_engine.proofs.Tried.{Along}
use Rattle.matching_engine.proofs.+choose_seek.Given as goal

abbrev pub decreases-choose : goal.decreases-choose
decreases-choose l = 2 * (length l.links.now.ends.first.now - l.k.0)

abbrev pub decreases-seek : goal.decreases-seek
decreases-seek l = 2 * (length l.links.now.ends.first.now - l.k.0) + 1

abbrev pub invariant-seek-loop-at : goal.invariant-seek-loop-at
invariant-seek-loop-at l = Along l.links.ends.first.now l.links.ends.second.now l.links.elided.now l.initial.need l.initial.row l.initial.at l.at l.need l.row

abbrev pub decreases-seek-loop-at : goal.decreases-seek-loop-at
decreases-seek-loop-at l = length l.links.ends.first.now - l.at
