use Rattle.reader_pieces.proofs.Resting.{empty-rests, sequence-rests}
use Rattle.reader_pieces.proofs.ending.complete.Goals as goal

pub returns-then-p-eq0 : goal.returns-then-p-eq0
returns-then-p-eq0 c = empty-rests c.args.p c.if-p-eq0.true

pub returns : goal.returns
returns c = sequence-rests c.args.p c.if-p-eq0.false
