use Rattle.loops.proofs.Loops.{ran-start, ran-step, ran-end}
use Rattle.reading.specs.Read.{leftmost}
use Rattle.reader.proofs.Ends.{closed-leftmost}
use Rattle.reader.proofs.ending.leftmost.Goals as goal

pub returns-then-all_closed : goal.returns-then-all_closed
returns-then-all_closed c = closed-leftmost _ _ (c.all_closed.ensures c.if-all_closed.true)

pub loop-i-init : goal.loop-i-init
loop-i-init c = ran-start

pub loop-i-preserved : goal.loop-i-preserved
loop-i-preserved c = ran-step c.loop-i.invariant _ c.loop-i-test.true c.earlier-p.ensures

pub returns : goal.returns
unfolding leftmost
returns c = ran-end c.loop-i.invariant c.loop-i-test.false
