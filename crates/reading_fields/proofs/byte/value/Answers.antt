use mathlib.Core.Path.{refl}
use native.Mathlib.Omega.{arith}
use Rattle.reading_fields.proofs.Bytes.{digit_low, digit-high}
use Rattle.reading_fields.proofs.byte.value.Goals as goal

pub overflow_sub-result : goal.overflow_sub-result
overflow_sub-result c = digit_low _ c.requires

pub returns : goal.returns
returns c = (refl, omega (arith, digit_low _ c.requires, digit-high _ c.requires))
