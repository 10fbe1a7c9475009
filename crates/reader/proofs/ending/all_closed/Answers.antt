use native.Mathlib.Omega.{arith}
use Rattle.reader.proofs.Ends.{closed-start, closed-step}
use Rattle.reader.proofs.ending.all_closed.Goals as goal

pub loop-i-init : goal.loop-i-init
loop-i-init c = closed-start

pub loop-i-preserved : goal.loop-i-preserved
loop-i-preserved c = closed-step c.loop-i.invariant

pub returns : goal.returns
returns c = λ e r l. c.loop-i.invariant.all e r (omega (arith, l, c.loop-i-test.false))
