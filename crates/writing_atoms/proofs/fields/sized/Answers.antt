use Rattle.buffer.proofs.Laws.{also, as_is, nothing}
use Rattle.writing_atoms.proofs.Laws.{size0, size1, size2}
use Rattle.writing_atoms.proofs.fields.sized.Goals as goal

pub returns-then-h-eq0 : goal.returns-then-h-eq0
returns-then-h-eq0 c = as_is (size0 _ _ c.if-h-eq0.true) (nothing)

pub returns-then-h-eq1 : goal.returns-then-h-eq1
returns-then-h-eq1 c = as_is (size1 _ _ c.if-h-eq1.true) c.put-at.ensures

pub returns : goal.returns
returns c = as_is (size2 _ _ c.if-h-eq0.false c.if-h-eq1.false) (also c.put-at.ensures c.digit.ensures)
