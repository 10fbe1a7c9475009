use Rattle.table_marks.proofs.Laws.{not_double, is_double}
use Rattle.table_marks.proofs.crowded_bond.Goals as goal

pub returns-then-bond_number-ne2 : goal.returns-then-bond_number-ne2
returns-then-bond_number-ne2 c = let a = c.args in not_double a.bonds.now a.m a.b.0 c.bond_number.ensures c.if-bond_number-ne2.true

pub returns : goal.returns
returns c = let a = c.args in is_double a.bonds.now a.m a.b.0 c.bond_number.ensures c.if-bond_number-ne2.false c.crowded_end.ensures
