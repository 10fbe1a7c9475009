use mathlib.Core.Path.{refl}
use native.Mathlib.Omega.{arith}
use Rattle.loops.proofs.Loops.{edited-start, filled-step, filled-end}
use Rattle.same_decide.proofs.turn_over.Goals as goal

pub loop-i-init : goal.loop-i-init
loop-i-init c = edited-start

pub loop-i-preserved : goal.loop-i-preserved
loop-i-preserved c = filled-step c.loop-i.invariant _ c.loop-i-test.true refl

pub returns : goal.returns
returns c = filled-end c.loop-i.invariant (omega (arith, c.requires)) c.loop-i-test.false
