use Rattle.table.specs.Cells.{in_range}
use Rattle.folding.specs.Folding.{plain_row}
use Rattle.folding.proofs.is_plain.Goals as goal

pub returns : goal.returns
unfolding plain_row in_range
returns c = rw (c.atom_within-e.ensures, c.atom_within-i.ensures, c.atom_within-c.ensures, c.atom_within-h.ensures, c.atom_within-s.ensures)
