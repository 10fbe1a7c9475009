use Rattle.loops.proofs.Loops.{ran-start, ran-step, ran-end}
use Rattle.conformation.specs.Sides.{lowest_of}
use Rattle.conformation.proofs.lowest_of.Goals as goal

pub loop-i-init : goal.loop-i-init
loop-i-init c = ran-start

pub loop-i-preserved : goal.loop-i-preserved
loop-i-preserved c = ran-step c.loop-i.invariant _ c.loop-i-test.true c.lower-w.ensures

pub returns : goal.returns
unfolding lowest_of
returns c = ran-end c.loop-i.invariant c.loop-i-test.false
