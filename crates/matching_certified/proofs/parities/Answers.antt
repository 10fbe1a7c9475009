use Rattle.loops.proofs.Loops.{edited-start, edited-step, edited-end}
use Rattle.matching_certified.proofs.parities.Goals as goal

pub loop-v-init : goal.loop-v-init
loop-v-init c = edited-start

pub loop-v-preserved : goal.loop-v-preserved
loop-v-preserved c = edited-step c.loop-v.invariant _ c.loop-v-test.true c.flip.ensures c.flip.auto.odd

pub shape_of-odd : goal.shape_of-odd
shape_of-odd c = c.loop-v.invariant.room

pub returns : goal.returns
returns c = edited-end c.loop-v.invariant c.loop-v-test.false
