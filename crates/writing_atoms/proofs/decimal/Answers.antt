use Rattle.buffer.proofs.Laws.{also, as_is}
use Rattle.writing_atoms.proofs.Laws.{digits1, digits2, digits3, digits4}
use Rattle.writing_atoms.proofs.decimal.Goals as goal

pub returns-then-x-lt10 : goal.returns-then-x-lt10
returns-then-x-lt10 c = as_is (digits1 _ c.if-x-lt10.true) c.digit.ensures

pub returns-then-x-lt100 : goal.returns-then-x-lt100
returns-then-x-lt100 c = as_is (digits2 _ c.if-x-lt10.false c.if-x-lt100.true) (also c.digit-at.ensures c.digit-then-x-lt100.ensures)

pub returns-then-x-lt1000 : goal.returns-then-x-lt1000
returns-then-x-lt1000 c = as_is (digits3 _ c.if-x-lt100.false c.if-x-lt1000.true) (also c.digit-at-then-x-lt1000.ensures (also c.digit-at-then-x-lt1000-2.ensures c.digit-then-x-lt1000.ensures))

pub returns : goal.returns
returns c = as_is (digits4 _ c.if-x-lt1000.false) (also c.digit-at-2.ensures (also c.digit-at-3.ensures (also c.digit-at-4.ensures c.digit-2.ensures)))
