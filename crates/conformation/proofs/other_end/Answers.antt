use Rattle.conformation.proofs.Laws.{other-second, other-first}
use Rattle.conformation.proofs.other_end.Goals as goal

pub returns-then-first-a : goal.returns-then-first-a
returns-then-first-a c = let a = c.args in other-second a.bonds.now a.a.0 a.b.0 c.bond_number-first.ensures c.if-first-a.true c.bond_number.ensures

pub returns : goal.returns
returns c = let a = c.args in other-first a.bonds.now a.a.0 a.b.0 c.bond_number-first.ensures c.if-first-a.false
