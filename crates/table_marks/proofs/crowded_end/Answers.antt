use Rattle.table_marks.proofs.Laws.{first-crowded, second-crowded}
use Rattle.table_marks.proofs.crowded_end.Goals as goal

pub returns-then-crowded : goal.returns-then-crowded
returns-then-crowded c = first-crowded _ _ _ c.bond_number-first.ensures c.crowded.ensures c.if-crowded.true

pub returns : goal.returns
returns c = second-crowded _ _ _ c.bond_number-first.ensures c.crowded.ensures c.if-crowded.false c.bond_number-second.ensures c.crowded-2.ensures
