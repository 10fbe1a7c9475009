use Rattle.buffer.proofs.Laws.{as_is, nothing}
use Rattle.writer.proofs.Emission.{enters, passes}
use Rattle.writer.proofs.emit.enter.Goals as goal

pub returns-then-more : goal.returns-then-more
returns-then-more c = as_is (enters _ c.if-more.true) c.put.ensures

pub returns : goal.returns
returns c = as_is (passes _ c.if-more.false) nothing
