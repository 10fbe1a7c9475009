use mathlib.Core.Path.{sym, ◌∙◌}
use native.Mathlib.Omega.{arith}
use Rattle.reading_deeds.proofs.Laws.{extension-here, extension-on}
use Rattle.reading_deeds.proofs.extending.Goals as goal

pub overflow_mul-f : goal.overflow_mul-f
overflow_mul-f c = omega (arith, c.requires (sym c.is_digit.ensures ∙ c.if-is_digit.true))

pub value-requires : goal.value-requires
value-requires c = sym c.is_digit.ensures ∙ c.if-is_digit.true

pub overflow_add-f : goal.overflow_add-f
overflow_add-f c = omega (arith, c.value.ensures.1, c.requires (sym c.is_digit.ensures ∙ c.if-is_digit.true))

pub returns-then-is_digit : goal.returns-then-is_digit
returns-then-is_digit c = extension-here _ (sym c.is_digit.ensures ∙ c.if-is_digit.true) c.value.ensures.0 c.with_extension.ensures

pub returns : goal.returns
returns c = extension-on _ (sym c.is_digit.ensures ∙ c.if-is_digit.false) c.closing.ensures
