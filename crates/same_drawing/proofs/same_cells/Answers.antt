use Rattle.same_drawing.proofs.Five.{other-element, five-cells}
use Rattle.same_drawing.proofs.same_cells.Goals as goal

pub returns-then-not-same_cell : goal.returns-then-not-same_cell
returns-then-not-same_cell c = other-element _ _ _ _ c.same_cell.ensures c.if-not-same_cell.true-raw

pub returns : goal.returns
returns c = five-cells _ _ _ _ c.same_cell.ensures c.if-not-same_cell.false-raw c.same_cell-isotope.ensures c.same_cell-hydrogens.ensures
    c.same_cell-charge.ensures c.same_cell-extension.ensures
