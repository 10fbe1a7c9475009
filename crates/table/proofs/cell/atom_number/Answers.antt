use mathlib.Core.Path.{◌∙◌}
use Rattle.table.proofs.cell.atom_number.Goals as goal

pub returns : goal.returns
returns c = c.cell_number.ensures ∙ simp c.atom_place.ensures
