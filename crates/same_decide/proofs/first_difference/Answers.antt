use native.Mathlib.Omega.{arith}
use Rattle.same_decide.proofs.first_difference.Goals as goal

pub loop-k-init : goal.loop-k-init
loop-k-init c = (omega arith, c.requires.2)

pub bounds-row-k : goal.bounds-row-k
bounds-row-k c = omega (arith, c.loop-k-test.true, c.requires.0)
