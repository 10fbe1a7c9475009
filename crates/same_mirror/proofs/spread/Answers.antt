use mathlib.Core.Path.{refl}
use Rattle.same_mirror.proofs.Passing.{spread-start, spread_same, spread-more}
use Rattle.same_mirror.proofs.spread.Goals as goal
use Rattle.same_mirror.proofs.spread.Goals.{then-dead-x-eq1, else-dead-x-eq1}

pub loop-x-init : goal.loop-x-init
loop-x-init c = spread-start

pub loop-x-preserved : goal.loop-x-preserved
loop-x-preserved c = elim c.if-dead-x-eq1.branch [ then-dead-x-eq1 w ↦ spread-more c.loop-x.invariant c.loop-x-test.true c.requires w.if-dead-x-eq1.true refl w.dead-is | else-dead-x-eq1 w ↦ spread_same c.loop-x.invariant c.loop-x-test.true w.dead-is ]

pub returns : goal.returns
returns c = c.loop-x.invariant.spreads
