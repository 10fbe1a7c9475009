use Rattle.loops.proofs.Loops.{filled-step, filled-end}
use Rattle.redrawing_check.proofs.fill_sums.Goals as goal

pub loop-a-preserved : goal.loop-a-preserved
loop-a-preserved c = filled-step c.loop-a.invariant _ c.loop-a-test.true c.plus.ensures

pub returns : goal.returns
returns c = filled-end c.loop-a.invariant c.requires.2 c.loop-a-test.false
