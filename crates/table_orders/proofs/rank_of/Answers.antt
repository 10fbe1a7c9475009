use Rattle.table_orders.proofs.Laws.{at_second, at_first}
use Rattle.table_orders.proofs.rank_of.Goals as goal

pub returns-then-bond_number-a : goal.returns-then-bond_number-a
returns-then-bond_number-a c = let a = c.args in at_second a.ranks.now a.bonds.now a.a.0 a.b.0 c.bond_number.ensures c.if-bond_number-a.true

pub returns : goal.returns
returns c = let a = c.args in at_first a.ranks.now a.bonds.now a.a.0 a.b.0 c.bond_number.ensures c.if-bond_number-a.false
