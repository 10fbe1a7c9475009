use native.Mathlib.Omega.{arith}
use Rattle.same_mirror.proofs.Checking.{refused, repeated}
use Rattle.same_mirror.proofs.is_repeated.Goals as goal

pub returns-then-i-lt-SIDE : goal.returns-then-i-lt-SIDE
returns-then-i-lt-SIDE c = refused

pub returns-then-j-lt-SIDE : goal.returns-then-j-lt-SIDE
returns-then-j-lt-SIDE c = refused

pub returns : goal.returns
returns c = repeated _ _ _ (omega (arith, c.if-i-lt-SIDE.false)) (omega (arith, c.if-j-lt-SIDE.false))
