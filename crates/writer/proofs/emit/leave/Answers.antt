use Rattle.buffer.proofs.Laws.{as_is, nothing}
use Rattle.writer.proofs.Emission.{stays, leaves}
use Rattle.writer.proofs.emit.leave.Goals as goal

pub returns-then-up-x : goal.returns-then-up-x
returns-then-up-x c = as_is (stays _ _ c.if-up-x.true) nothing

pub returns : goal.returns
returns c = as_is (leaves _ _ c.if-up-x.false) c.put.ensures
