use mir.Facts.{to_z-of_z}
use Rattle.table.specs.Cells.{in_range}
use Rattle.table.proofs.cell.within.Goals as goal

pub returns : goal.returns
unfolding in_range
returns c = let f = c.ranges in simp (to_z-of_z f.low, to_z-of_z f.x, to_z-of_z f.high)
