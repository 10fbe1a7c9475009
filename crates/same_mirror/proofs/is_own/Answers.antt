use Rattle.same_mirror.proofs.Checking.{all_start, all-step, all_end, refused}
use Rattle.same_mirror.proofs.is_own.Goals as goal

pub loop-e-init : goal.loop-e-init
loop-e-init c = all_start

pub returns-then-like-e : goal.returns-then-like-e
returns-then-like-e c = refused

pub loop-e-preserved : goal.loop-e-preserved
loop-e-preserved c = all-step c.loop-e.invariant c.loop-e-test.true c.if-like-e.false

pub returns : goal.returns
returns c = λ h. all_end c.loop-e.invariant c.loop-e-test.false
