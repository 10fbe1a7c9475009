use Rattle.buffer.proofs.Laws.{also, as_is, nothing}
use Rattle.writing_atoms.proofs.Laws.{letters0, letters1, letters2}
use Rattle.writing_atoms.proofs.fields.spelled.Goals as goal

pub returns-then-s-eq0 : goal.returns-then-s-eq0
returns-then-s-eq0 c = as_is (letters0 _ c.if-s-eq0.true) (nothing)

pub returns-then-s-eq0-2 : goal.returns-then-s-eq0-2
returns-then-s-eq0-2 c = as_is (letters1 _ c.if-s-eq0.false c.if-s-eq0-2.true) c.put-at.ensures

pub returns : goal.returns
returns c = as_is (letters2 _ c.if-s-eq0.false c.if-s-eq0-2.false) (also c.put-at.ensures c.put.ensures)
