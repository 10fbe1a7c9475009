use mathlib.Core.Path.{◌∙◌}
use mir.Facts.{to_z-of_z}
use Rattle.table.proofs.cell.atom_within.Goals as goal

pub returns : goal.returns
returns c = let f = c.ranges in
    c.cell_within.ensures ∙ simp (c.atom_place.ensures, to_z-of_z f.low, to_z-of_z f.high)
