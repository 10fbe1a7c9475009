use Rattle.conformation.proofs.Laws.{none-compared, same-compared, opposite-compared}
use Rattle.conformation.proofs.compare.Goals as goal

pub returns-then-s-t : goal.returns-then-s-t
returns-then-s-t c = none-compared _ _ c.if-s-t.true

pub returns-then-s-t-2 : goal.returns-then-s-t-2
returns-then-s-t-2 c = same-compared _ _ c.if-s-t.false c.if-s-t-2.true

pub returns-else-s-t-2 : goal.returns-else-s-t-2
returns-else-s-t-2 c = opposite-compared _ _ c.if-s-t.false c.if-s-t-2.false
