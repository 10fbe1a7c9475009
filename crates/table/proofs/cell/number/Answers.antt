use mir.Facts.{to_z-of_z, Fits-nat_abs}
use Rattle.table.proofs.Cells.{negative, not_negative}
use Rattle.table.proofs.cell.number.Goals as goal

pub overflow_cast-result : goal.overflow_cast-result
overflow_cast-result c = let r = to_z-of_z c.ranges.x in
    simp r ((not_negative c.args.x (simp r at c.if-x-lt0.false)).0, Fits-nat_abs tt c.ranges.x)

pub returns-then-x-lt0 : goal.returns-then-x-lt0
returns-then-x-lt0 c = negative c.args.x (simp (to_z-of_z c.ranges.x) at c.if-x-lt0.true)

pub returns-else-x-lt0 : goal.returns-else-x-lt0
returns-else-x-lt0 c = let r = to_z-of_z c.ranges.x in
    simp r (not_negative c.args.x (simp r at c.if-x-lt0.false)).1
