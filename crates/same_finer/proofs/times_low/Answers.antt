use native.Mathlib.Omega.{arith}
use mathlib.Core.Path.{refl}
use Rattle.same_finer.specs.Finer.{times_low}
use Rattle.same_finer.proofs.Low.{times-open}
use Rattle.same_finer.proofs.times_low.Goals as goal

pub overflow_mul-result : goal.overflow_mul-result
overflow_mul-result c = omega (arith, times-open c.args.x c.args.y)

pub returns : goal.returns
unfolding times_low
returns c = refl
