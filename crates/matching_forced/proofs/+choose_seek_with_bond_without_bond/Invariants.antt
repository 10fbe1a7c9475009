use Prim.Native.Nat.{◌*◌, ◌+◌}
use Rattle.matching.specs.Model.{bonds_of}
use Rattle.matching_forced.specs.Steps.{free_total}
use Rattle.matching_forced.proofs.+choose_seek_with_bond_without_bond.Given as goal

abbrev pub decreases-choose : goal.decreases-choose
decreases-choose l = 3 * free_total (bonds_of l.ends.now.first.now l.ends.now.second.now l.el.now) l.need.now + 1

abbrev pub decreases-seek : goal.decreases-seek
decreases-seek l = 3 * free_total (bonds_of l.ends.now.first.now l.ends.now.second.now l.el.now) l.need.now + 2

abbrev pub decreases-with_bond : goal.decreases-with_bond
decreases-with_bond l = 3 * free_total (bonds_of l.ends.now.first.now l.ends.now.second.now l.el.now) l.need.now

abbrev pub decreases-without_bond : goal.decreases-without_bond
decreases-without_bond l = 3 * free_total (bonds_of l.ends.now.first.now l.ends.now.second.now l.el.now) l.need.now
