use Rattle.report_blocks.proofs.Lines.{counted-accepted, counted-refused}
use Rattle.report_blocks.proofs.count.Goals as goal

pub returns-then-accepted : goal.returns-then-accepted
returns-then-accepted c = counted-accepted c.args.t _ _ _ c.if-accepted.true c.next_count-number.ensures c.next_count.ensures

pub returns : goal.returns
returns c = counted-refused c.args.t _ _ _ c.if-accepted.false c.next_count-number.ensures c.next_count-2.ensures
