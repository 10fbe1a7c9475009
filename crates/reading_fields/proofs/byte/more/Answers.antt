use mathlib.Core.Path.{sym, ◌∙◌}
use Rattle.reading_fields.proofs.Bytes.{grown, kept}
use Rattle.reading_fields.proofs.byte.more.Goals as goal

pub value-requires : goal.value-requires
value-requires c = sym c.is_digit.ensures ∙ c.if-is_digit.true

pub returns-then-is_digit : goal.returns-then-is_digit
returns-then-is_digit c = grown _ _ c.peek-b.ensures (sym c.is_digit.ensures ∙ c.if-is_digit.true) c.value.ensures

pub returns : goal.returns
returns c = kept _ _ c.peek-b.ensures (sym c.is_digit.ensures ∙ c.if-is_digit.false) c.requires.at_in_bounds
