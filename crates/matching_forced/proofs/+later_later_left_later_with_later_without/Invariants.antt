use Prim.Native.Nat.{◌*◌, ◌+◌}
use Rattle.matching.specs.Model.{bonds_of}
use Rattle.matching_forced.specs.Steps.{free_total}
use Rattle.matching_forced.proofs.+later_later_left_later_with_later_without.Given as goal

abbrev pub decreases-later : goal.decreases-later
decreases-later l = 3 * free_total (bonds_of l.ends.now.first.now l.ends.now.second.now l.el.now) l.need.now + 2

abbrev pub decreases-later_left : goal.decreases-later_left
decreases-later_left l = 3 * free_total (bonds_of l.ends.now.first.now l.ends.now.second.now l.el.now) l.need.now + 1

abbrev pub decreases-later_with : goal.decreases-later_with
decreases-later_with l = 3 * free_total (bonds_of l.ends.now.first.now l.ends.now.second.now l.el.now) l.need.now

abbrev pub decreases-later_without : goal.decreases-later_without
decreases-later_without l = 3 * free_total (bonds_of l.ends.now.first.now l.ends.now.second.now l.el.now) l.need.now
