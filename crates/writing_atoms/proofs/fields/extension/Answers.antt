use Rattle.buffer.proofs.Laws.{also, as_is, nothing}
use Rattle.writing_atoms.proofs.Laws.{extension0, extension1}
use Rattle.writing_atoms.proofs.fields.extension.Goals as goal

pub returns-then-x-eq0 : goal.returns-then-x-eq0
returns-then-x-eq0 c = as_is (extension0 _ c.if-x-eq0.true) (nothing)

pub returns : goal.returns
returns c = as_is (extension1 _ c.if-x-eq0.false) (also c.put-at.ensures c.decimal.ensures)
