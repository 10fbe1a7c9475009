use mathlib.Core.Path.{◌∙◌}
use Rattle.table.proofs.cell.bond_number.Goals as goal

pub returns : goal.returns
returns c = c.cell_number.ensures ∙ simp c.bond_place.ensures
