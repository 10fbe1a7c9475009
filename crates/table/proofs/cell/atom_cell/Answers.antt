use mir.Facts.{to_z-of_z}
use mathlib.Core.Path.{◌∙◌}
use Rattle.table.proofs.cell.atom_cell.Goals as goal

pub returns : goal.returns
returns c = let h = to_z-of_z c.cell.ensures.sfits in
    record { value = h ∙ c.cell.ensures.value ∙ simp c.atom_place.ensures; sfits = simp h c.cell.ensures.sfits }
