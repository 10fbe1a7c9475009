use Rattle.table.specs.Cells.{touches}
use Rattle.table_orders.proofs.touches.Goals as goal

pub returns : goal.returns
unfolding touches
returns c = rw (c.bond_number-first.ensures, c.bond_number-second.ensures)
