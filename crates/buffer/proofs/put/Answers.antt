use Rattle.buffer.proofs.Laws.{room, full}
use Rattle.buffer.proofs.put.Goals as goal

pub returns-then-at-out : goal.returns-then-at-out
returns-then-at-out c = room c.args.out.now c.args.at c.args.b c.if-at-out.true

pub returns : goal.returns
returns c = full c.args.out.now c.args.at c.args.b c.if-at-out.false c.next_count.ensures
