use Prim.Native.Nat.{◌-◌}
use lib.ListN.{length}
use Rattle.matching_search.proofs.+is_matching.Given as goal

abbrev pub decreases-is_matching : goal.decreases-is_matching
decreases-is_matching l = length l.links.now.ends.first.now - l.k.0
