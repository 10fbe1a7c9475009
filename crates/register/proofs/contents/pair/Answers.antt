use native.Mathlib.Omega.{arith}
use Rattle.register.specs.Layout.{two}
use Rattle.register.proofs.contents.pair.Goals as goal

pub overflow_mul-result : goal.overflow_mul-result
overflow_mul-result c = omega (arith, c.wide-2.ensures)

pub overflow_add-result : goal.overflow_add-result
overflow_add-result c = omega (arith, c.wide-2.ensures, c.wide.ensures)

pub returns : goal.returns
unfolding two
returns c = record { value = cc; upper_bound = omega (arith, c.wide-2.ensures, c.wide.ensures) }
