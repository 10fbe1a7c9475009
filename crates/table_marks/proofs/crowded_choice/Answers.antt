use Rattle.table_marks.proofs.Laws.{not_chosen, is-chosen}
use Rattle.table_marks.proofs.crowded_choice.Goals as goal

pub returns-then-x-ne1 : goal.returns-then-x-ne1
returns-then-x-ne1 c = let a = c.args in not_chosen a.bonds.now a.m a.b.0 c.if-x-ne1.true

pub returns : goal.returns
returns c = let a = c.args in is-chosen a.bonds.now a.m a.b.0 c.if-x-ne1.false c.crowded_end.ensures
