use Rattle.table_marks.proofs.Laws.{stray-unmarked, stray-marked}
use Rattle.table_marks.proofs.stray.Goals as goal

pub returns-then-not-is_mark : goal.returns-then-not-is_mark
returns-then-not-is_mark c = let a = c.args in stray-unmarked a.bonds.now a.m a.b.0 c.bond_number.ensures c.is_mark.ensures c.if-not-is_mark.true

pub returns : goal.returns
returns c = let a = c.args in stray-marked a.bonds.now a.m a.b.0 c.bond_number.ensures c.is_mark.ensures c.if-not-is_mark.false c.bond_number-first.ensures c.bond_number-second.ensures c.has_double.ensures c.has_double-2.ensures
