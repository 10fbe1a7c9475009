use mathlib.Core.Path.{sym, ◌∙◌}
use Rattle.reading_fields.proofs.Bytes.{several-digit}
use Rattle.reading_fields.proofs.Fields.{hydrogens-none, hydrogens-many, hydrogens-wrong, hydrogens-one}
use Rattle.reading_fields.proofs.bracket.hydrogens_at.Goals as goal

pub returns-then-peek-ne72 : goal.returns-then-peek-ne72
returns-then-peek-ne72 c = hydrogens-none _ _ c.requires c.peek.ensures c.if-peek-ne72.true

pub value-requires : goal.value-requires
value-requires c = several-digit _ (sym c.is_several.ensures ∙ c.if-is_several.true)

pub returns-then-is_several : goal.returns-then-is_several
returns-then-is_several c = hydrogens-many _ _ c.peek.ensures c.if-peek-ne72.false c.peek-d.ensures (sym c.is_several.ensures ∙ c.if-is_several.true) c.value.ensures.0

pub returns-then-is_digit : goal.returns-then-is_digit
returns-then-is_digit c = hydrogens-wrong _ _ c.peek.ensures c.if-peek-ne72.false c.peek-d.ensures (sym c.is_several.ensures ∙ c.if-is_several.false) (sym c.is_digit.ensures ∙ c.if-is_digit.true)

pub returns : goal.returns
returns c = hydrogens-one _ _ c.peek.ensures c.if-peek-ne72.false c.peek-d.ensures (sym c.is_several.ensures ∙ c.if-is_several.false)
