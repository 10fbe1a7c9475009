use mathlib.Core.Path.{sym, ◌∙◌}
use Rattle.reading_fields.proofs.Element.{symbol-zero, symbol-long, symbol-brief, symbol-selected, symbol-half, symbol-nothing}
use Rattle.reading_fields.proofs.bracket.symbol_at.Goals as goal

pub returns-then-a-eq0 : goal.returns-then-a-eq0
returns-then-a-eq0 c = symbol-zero _ _ c.requires c.peek-a.ensures c.if-a-eq0.true

pub returns-in-Long : goal.returns-in-Long
returns-in-Long c = rw c.named.ensures (symbol-long _ _ c.peek-a.ensures c.peek.ensures c.if-a-eq0.false (sym c.lookup.ensures ∙ c.in-Long.is))

pub returns-in-Brief : goal.returns-in-Brief
returns-in-Brief c = rw c.named-in-Brief.ensures (symbol-brief _ _ c.peek-a.ensures c.peek.ensures c.if-a-eq0.false (sym c.lookup.ensures ∙ c.in-Brief.is))

pub returns-in-Selected : goal.returns-in-Selected
returns-in-Selected c = rw c.named-in-Selected.ensures (symbol-selected _ _ c.peek-a.ensures c.peek.ensures c.if-a-eq0.false (sym c.lookup.ensures ∙ c.in-Selected.is))

pub returns-in-Half : goal.returns-in-Half
returns-in-Half c = symbol-half _ _ c.peek-a.ensures c.peek.ensures c.if-a-eq0.false (sym c.lookup.ensures ∙ c.in-Half.is)

pub returns-in-Nothing : goal.returns-in-Nothing
returns-in-Nothing c = symbol-nothing _ _ c.peek-a.ensures c.peek.ensures c.if-a-eq0.false (sym c.lookup.ensures ∙ c.in-Nothing.is)
