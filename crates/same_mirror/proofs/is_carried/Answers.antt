use native.Mathlib.Omega.{arith}
use Rattle.same_mirror.proofs.Checking.{all_start, all-step, all_end, refused, carried}
use Rattle.same_mirror.proofs.is_carried.Goals as goal

pub loop-e-init : goal.loop-e-init
loop-e-init c = all_start

pub overflow_cast-like : goal.overflow_cast-like
overflow_cast-like c = omega (arith, c.requires.0, c.requires.1 c.loop-e.e c.loop-e-test.true)

pub overflow_shr-y : goal.overflow_shr-y
overflow_shr-y c = omega (arith, c.requires.0, c.requires.1 c.loop-e.e c.loop-e-test.true)

pub returns-then-x-e : goal.returns-then-x-e
returns-then-x-e c = refused

pub loop-e-preserved : goal.loop-e-preserved
loop-e-preserved c = all-step c.loop-e.invariant c.loop-e-test.true (carried c.args.like.now _ _ _ c.if-x-e.false)

pub returns : goal.returns
returns c = λ h. all_end c.loop-e.invariant c.loop-e-test.false
