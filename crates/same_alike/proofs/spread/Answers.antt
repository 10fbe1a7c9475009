use native.Mathlib.Omega.{arith}
use Rattle.same_alike.proofs.Pairs.{spread-mark, same-marks}
use Rattle.same_alike.proofs.spread.Goals as goal
use Rattle.same_alike.proofs.spread.Goals.{then-dead-image-eq1, else-dead-image-eq1}

pub loop-y-init : goal.loop-y-init
loop-y-init c = c.requires.hopeless

pub bounds-tau-y : goal.bounds-tau-y
bounds-tau-y c = omega (arith, c.requires.prefix.0.few, c.loop-y-test.true)

pub overflow_cast-image : goal.overflow_cast-image
overflow_cast-image c = omega (arith, c.requires.prefix.0.few, c.requires.like.below c.loop-y.y c.loop-y-test.true)

pub bounds-dead-image : goal.bounds-dead-image
bounds-dead-image c = omega (arith, c.requires.prefix.0.few, c.requires.like.below c.loop-y.y c.loop-y-test.true)

pub bounds-dead-y : goal.bounds-dead-y
bounds-dead-y c = omega (arith, c.requires.prefix.0.few, c.loop-y-test.true)

pub loop-y-preserved : goal.loop-y-preserved
loop-y-preserved c = elim c.if-dead-image-eq1.branch [ then-dead-image-eq1 w ↦ spread-mark c.requires.like c.requires.prefix.0 c.requires.prefix.1 c.loop-y.y c.loop-y-test.true c.loop-y.invariant w.if-dead-image-eq1.true w.dead-is | else-dead-image-eq1 w ↦ same-marks c.loop-y.invariant w.dead-is ]

pub returns : goal.returns
returns c = c.loop-y.invariant
