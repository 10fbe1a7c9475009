use Rattle.table_marks.proofs.Laws.{double-at}
use Rattle.table_marks.proofs.is_double_at.Goals as goal

pub returns : goal.returns
returns c = double-at _ _ _ c.bond_number-first.ensures c.bond_number-second.ensures c.bond_number-kind.ensures
