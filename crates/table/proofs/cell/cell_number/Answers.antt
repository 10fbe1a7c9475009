use mathlib.Core.Path.{◌∙◌}
use mir.Facts.{to_z-of_z}
use Rattle.table.proofs.cell.cell_number.Goals as goal

pub returns : goal.returns
returns c = c.number.ensures ∙ simp (to_z-of_z c.cell.ensures.sfits) (simp c.cell.ensures.value)
