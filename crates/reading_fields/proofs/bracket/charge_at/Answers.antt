use mir.Facts.{to_z-of_z}
use borrow.Author.Tests.{not-true, not-false}
use mathlib.Core.Path.{sym, ◌∙◌}
use native.Mathlib.Omega.{arith}
use Rattle.reading_fields.proofs.Bytes.{several-digit, several-low, sign-in}
use Rattle.reading_fields.proofs.Fields.{charge-none, charge-many, charge-wrong, charge-one}
use Rattle.reading_fields.proofs.bracket.charge_at.Goals as goal

pub returns-then-not-is_sign : goal.returns-then-not-is_sign
returns-then-not-is_sign c = charge-none _ _ c.requires c.peek-b.ensures (sym c.is_sign.ensures ∙ not-true _ c.if-not-is_sign.true-raw)

pub overflow_add-at : goal.overflow_add-at
overflow_add-at c = omega (arith, sign-in c.peek-b.ensures (sym c.is_sign.ensures ∙ not-false _ c.if-not-is_sign.false-raw))

pub value-requires : goal.value-requires
value-requires c = several-digit _ (sym c.is_several.ensures ∙ c.if-is_several.true)

pub charge_of-requires : goal.charge_of-requires
charge_of-requires c = (omega (arith, c.value.ensures.0, several-low _ (sym c.is_several.ensures ∙ c.if-is_several.true)), c.value.ensures.1)

pub returns-then-is_several : goal.returns-then-is_several
returns-then-is_several c = charge-many _ _ c.peek-b.ensures (sym c.is_sign.ensures ∙ not-false _ c.if-not-is_sign.false-raw) (sign-in c.peek-b.ensures (sym c.is_sign.ensures ∙ not-false _ c.if-not-is_sign.false-raw)) c.peek-d.ensures (sym c.is_several.ensures ∙ c.if-is_several.true) c.value.ensures.0 (to_z-of_z c.charge_of.ensures.sfits ∙ c.charge_of.ensures.value)

pub returns-then-is_digit : goal.returns-then-is_digit
returns-then-is_digit c = charge-wrong _ _ c.peek-b.ensures (sym c.is_sign.ensures ∙ not-false _ c.if-not-is_sign.false-raw) (sign-in c.peek-b.ensures (sym c.is_sign.ensures ∙ not-false _ c.if-not-is_sign.false-raw)) c.peek-d.ensures (sym c.is_several.ensures ∙ c.if-is_several.false) (sym c.is_digit.ensures ∙ c.if-is_digit.true)

pub returns : goal.returns
returns c = charge-one _ _ c.peek-b.ensures (sym c.is_sign.ensures ∙ not-false _ c.if-not-is_sign.false-raw) (sign-in c.peek-b.ensures (sym c.is_sign.ensures ∙ not-false _ c.if-not-is_sign.false-raw)) c.peek-d.ensures (sym c.is_several.ensures ∙ c.if-is_several.false) (to_z-of_z c.charge_of-2.ensures.sfits ∙ c.charge_of-2.ensures.value)
