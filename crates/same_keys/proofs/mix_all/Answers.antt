use Rattle.loops.proofs.Loops.{edited-start, filled-step, filled-end}
use Rattle.same_keys.proofs.mix_all.Goals as goal

pub loop-i-init : goal.loop-i-init
loop-i-init c = edited-start

pub loop-i-preserved : goal.loop-i-preserved
loop-i-preserved c = filled-step c.loop-i.invariant _ c.loop-i-test.true c.mix.ensures

pub shape_of-mixed : goal.shape_of-mixed
shape_of-mixed c = c.loop-i.invariant.room

pub returns : goal.returns
returns c = filled-end c.loop-i.invariant c.requires.1 c.loop-i-test.false
