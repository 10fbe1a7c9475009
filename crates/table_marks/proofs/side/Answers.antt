use mathlib.Core.Path.{◌∙◌}
use Rattle.table_marks.proofs.Laws.{side-first, side-second, side-second_unmarked, side-neither}
use Rattle.table_marks.proofs.side.Goals as goal

pub returns-then-bond_number-a : goal.returns-then-bond_number-a
returns-then-bond_number-a c = side-first _ _ _ c.bond_number.ensures c.mark-mark.ensures c.bond_number-2.ensures c.if-bond_number-a.true

pub returns-in_err-mark : goal.returns-in_err-mark
returns-in_err-mark c = c.from_residual.ensures ∙ side-second_unmarked _ _ _ c.bond_number.ensures c.mark-mark.ensures c.bond_number-2.ensures c.if-bond_number-a.false c.bond_number-3.ensures c.if-bond_number-a-2.true c.in_err-mark.was

pub returns-then-bond_number-a-2 : goal.returns-then-bond_number-a-2
returns-then-bond_number-a-2 c = side-second _ _ _ c.bond_number.ensures c.mark-mark.ensures c.bond_number-2.ensures c.if-bond_number-a.false c.bond_number-3.ensures c.if-bond_number-a-2.true c.in_ok-mark.was c.turned-back.ensures

pub returns : goal.returns
returns c = side-neither _ _ _ c.bond_number.ensures c.mark-mark.ensures c.bond_number-2.ensures c.if-bond_number-a.false c.bond_number-3.ensures c.if-bond_number-a-2.false
