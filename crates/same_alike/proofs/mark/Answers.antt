use native.Mathlib.Omega.{arith}
use Rattle.same_alike.proofs.Marks.{marked}
use Rattle.same_alike.proofs.Pairs.{same-marks}
use Rattle.same_alike.proofs.mark.Goals as goal
use Rattle.same_alike.proofs.mark.Goals.{then-lucky-dead, else-lucky-dead}

pub bounds-dead-d : goal.bounds-dead-d
bounds-dead-d c = omega (arith, c.requires.prefix.0.few, c.requires.prefix.2)

pub loop-e-init : goal.loop-e-init
loop-e-init c = marked c.args.d 1 c.requires.hopeless c.requires.d_value

pub bounds-dead-e : goal.bounds-dead-e
bounds-dead-e c = omega (arith, c.requires.prefix.0.few, c.loop-e-test.true)

pub offset_bounds-k2-e : goal.offset_bounds-k2-e
offset_bounds-k2-e c = omega (arith, c.requires.prefix.0.few, c.loop-e-test.true)

pub bounds-k2-e : goal.bounds-k2-e
bounds-k2-e c = omega (arith, c.requires.prefix.0.few, c.loop-e-test.true)

pub offset_bounds-k2-d : goal.offset_bounds-k2-d
offset_bounds-k2-d c = omega (arith, c.requires.prefix.0.few, c.requires.prefix.2)

pub bounds-k2-d : goal.bounds-k2-d
bounds-k2-d c = omega (arith, c.requires.prefix.0.few, c.requires.prefix.2)

pub mark_like-right-requires : goal.mark_like-right-requires
mark_like-right-requires c = record { prefix = (c.requires.prefix.0, c.requires.prefix.1, c.requires.prefix.2, c.loop-e-test.true, c.requires.prefix.3, c.requires.prefix.4); hopeless = c.loop-e.invariant }

pub loop-e-preserved : goal.loop-e-preserved
loop-e-preserved c = elim c.if-lucky-dead.branch [ then-lucky-dead w ↦ same-marks w.mark_like-right.ensures w.dead-is | else-lucky-dead w ↦ same-marks c.loop-e.invariant w.dead-is ]

pub returns : goal.returns
returns c = c.loop-e.invariant
