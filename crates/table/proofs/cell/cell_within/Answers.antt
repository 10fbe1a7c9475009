use mathlib.Core.Path.{◌∙◌}
use mir.Facts.{to_z-of_z}
use Rattle.table.proofs.cell.cell_within.Goals as goal

pub returns : goal.returns
returns c = let f = c.ranges in
    c.within.ensures ∙ simp (to_z-of_z c.cell.ensures.sfits, to_z-of_z f.low, to_z-of_z f.high) (simp c.cell.ensures.value)
