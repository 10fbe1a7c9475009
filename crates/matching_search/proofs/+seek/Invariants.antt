use Prim.Native.Nat.{◌-◌}
use lib.ListN.{length}
use Rattle.matching_search.proofs.+seek.Given as goal

abbrev pub decreases-seek : goal.decreases-seek
decreases-seek l = length l.links.now.ends.first.now - l.k.0
