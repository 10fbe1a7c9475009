use mathlib.Core.Path.{◌∙◌}
use mir.Facts.{to_z-of_z}
use Rattle.table.specs.Cells.{in_range}
use Rattle.same_drawing.proofs.same_cell.Goals as goal

pub returns : goal.returns
unfolding in_range
returns c = c.atom_within.ensures ∙ rw (to_z-of_z c.atom_cell-w.ensures.sfits, c.atom_cell-w.ensures.value)
