use Rattle.reading_fields.proofs.Fields.{mark-none, mark-one, mark-two}
use Rattle.reading_fields.proofs.bracket.mark_at.Goals as goal

pub returns-then-peek-ne64 : goal.returns-then-peek-ne64
returns-then-peek-ne64 c = mark-none _ _ c.requires c.peek.ensures c.if-peek-ne64.true

pub returns-then-peek-ne64-2 : goal.returns-then-peek-ne64-2
returns-then-peek-ne64-2 c = mark-one _ _ c.peek.ensures c.if-peek-ne64.false c.peek-2.ensures c.if-peek-ne64-2.true

pub returns : goal.returns
returns c = mark-two _ _ c.peek.ensures c.if-peek-ne64.false c.peek-2.ensures c.if-peek-ne64-2.false
