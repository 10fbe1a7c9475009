use Rattle.buffer.proofs.Laws.{also, as_is, nothing}
use Rattle.writing_atoms.proofs.Laws.{mark0, mark1, mark2}
use Rattle.writing_atoms.proofs.fields.mark.Goals as goal

pub returns-then-k-eq0 : goal.returns-then-k-eq0
returns-then-k-eq0 c = as_is (mark0 _ c.if-k-eq0.true) nothing

pub returns-then-k-eq1 : goal.returns-then-k-eq1
returns-then-k-eq1 c = as_is (mark1 _ c.if-k-eq1.true) c.put-at.ensures

pub returns : goal.returns
returns c = as_is (mark2 _ c.if-k-eq0.false c.if-k-eq1.false) (also c.put-at.ensures c.put.ensures)
