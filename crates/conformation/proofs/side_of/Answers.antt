use Rattle.conformation.proofs.Laws.{not_double, at-double}
use Rattle.conformation.proofs.side_of.Goals as goal

pub returns-then-bond_number-ne2 : goal.returns-then-bond_number-ne2
returns-then-bond_number-ne2 c = let a = c.args in not_double a.bonds.now a.m a.b.0 c.bond_number.ensures c.if-bond_number-ne2.true

pub returns : goal.returns
returns c = let a = c.args in at-double a.bonds.now a.m a.b.0 c.bond_number.ensures c.if-bond_number-ne2.false c.bond_number-first.ensures c.bond_number-second.ensures c.lowest_of-one.ensures c.lowest_of-other.ensures c.compare.ensures
