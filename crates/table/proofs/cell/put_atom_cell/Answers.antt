use mir.Facts.{to_z-of_z}
use mathlib.Core.Path.{◌∙◌}
use Rattle.table.proofs.cell.put_atom_cell.Goals as goal

pub returns : goal.returns
returns c = c.put.ensures ∙ simp (c.atom_place.ensures, to_z-of_z c.ranges.v)
