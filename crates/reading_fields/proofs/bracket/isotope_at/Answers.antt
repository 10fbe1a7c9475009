use mathlib.Core.Path.{sym, ◌∙◌}
use native.Mathlib.Omega.{arith}
use borrow.Author.Tests.{not-true, not-false}
use Rattle.reading_fields.proofs.Bytes.{digit-in}
use Rattle.reading_fields.proofs.Fields.{iso-none, iso-zero, iso-all}
use Rattle.reading_fields.proofs.bracket.isotope_at.Goals as goal

pub returns-then-not-is_digit : goal.returns-then-not-is_digit
returns-then-not-is_digit c = iso-none _ _ c.requires c.peek-b.ensures (sym c.is_digit.ensures ∙ not-true _ c.if-not-is_digit.true-raw)

pub returns-then-b-eq48 : goal.returns-then-b-eq48
returns-then-b-eq48 c = iso-zero _ _ c.requires c.peek-b.ensures c.if-b-eq48.true

pub value-requires : goal.value-requires
value-requires c = sym c.is_digit.ensures ∙ not-false _ c.if-not-is_digit.false-raw

pub more-two-requires : goal.more-two-requires
more-two-requires c = record { at_in_bounds = omega (arith, digit-in c.peek-b.ensures (sym c.is_digit.ensures ∙ not-false _ c.if-not-is_digit.false-raw)); value_bound = omega (arith, c.value.ensures.1) }

pub returns : goal.returns
returns c = iso-all _ _ c.peek-b.ensures (sym c.is_digit.ensures ∙ not-false _ c.if-not-is_digit.false-raw) c.if-b-eq48.false c.value.ensures.0 c.more-two.ensures c.more.ensures
