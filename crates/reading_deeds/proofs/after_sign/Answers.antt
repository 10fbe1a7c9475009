use Rattle.std.proofs.Common.{rules, w32}
use Rattle.reading_deeds.proofs.Laws.{minus-here, plus-here, size-on}
use mathlib.Core.Path.{sym, ◌∙◌}
use native.Mathlib.Omega.{arith}
use mir.Facts.{to_z-of_z}
use Rattle.reading_fields.proofs.Bytes.{several-digit, several-low}
use Rattle.reading_deeds.proofs.after_sign.Goals as goal

pub value-requires : goal.value-requires
value-requires c = several-digit _ (sym c.is_several.ensures ∙ c.if-is_several.true)

pub charge_of-requires : goal.charge_of-requires
charge_of-requires c = (omega (arith, c.value.ensures.0, several-low _ (sym c.is_several.ensures ∙ c.if-is_several.true)), c.value.ensures.1)

pub returns-then-f-lt0 : goal.returns-then-f-lt0
returns-then-f-lt0 c = minus-here _ (sym c.is_several.ensures ∙ c.if-is_several.true) (to_z-of_z {w = w32} (search rules)) c.if-f-lt0.true (to_z-of_z c.charge_of.ensures.sfits ∙ c.charge_of.ensures.value) c.value.ensures.0 c.with_charge.ensures

pub value-requires-then-is_several : goal.value-requires-then-is_several
value-requires-then-is_several c = several-digit _ (sym c.is_several.ensures ∙ c.if-is_several.true)

pub charge_of-requires-then-is_several : goal.charge_of-requires-then-is_several
charge_of-requires-then-is_several c = (omega (arith, c.value-then-is_several.ensures.0, several-low _ (sym c.is_several.ensures ∙ c.if-is_several.true)), c.value-then-is_several.ensures.1)

pub returns-then-is_several : goal.returns-then-is_several
returns-then-is_several c = plus-here _ (sym c.is_several.ensures ∙ c.if-is_several.true) (to_z-of_z {w = w32} (search rules)) c.if-f-lt0.false (to_z-of_z c.charge_of-then-is_several.ensures.sfits ∙ c.charge_of-then-is_several.ensures.value) c.value-then-is_several.ensures.0 c.with_charge-then-is_several.ensures

pub returns : goal.returns
returns c = size-on _ (sym c.is_several.ensures ∙ c.if-is_several.false) c.closing.ensures
