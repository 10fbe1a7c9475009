use Prim.Native.Nat.{◌-◌}
use lib.ListN.{length}
use Rattle.matching_engine.proofs.+later.Given as goal

abbrev pub decreases-later : goal.decreases-later
decreases-later l = length l.links.now.ends.first.now - l.k.0
