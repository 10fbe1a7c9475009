use Rattle.same_open.proofs.Laws.{told-closed, told-open}
use Rattle.same_open.proofs.agree.Goals as goal

pub returns-then-u-w : goal.returns-then-u-w
returns-then-u-w c = told-closed _ _ c.if-u-w.true

pub returns : goal.returns
returns c = told-open _ _ c.if-u-w.false
