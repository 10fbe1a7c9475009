use Rattle.reading_fields.proofs.Letters.{spells-At, spells-Ts, spells-no-At, spells-no-Ts}
use Rattle.reading_fields.proofs.spelled.half_at.Goals as goal

pub returns-then-c-eq116 : goal.returns-then-c-eq116
returns-then-c-eq116 c = spells-At _ _ c.requires.peeked c.requires.at_in_bounds c.peek-c.ensures c.requires.b_value c.if-b-eq65.true c.if-c-eq116.true c.lettered.ensures

pub returns-then-b-eq65 : goal.returns-then-b-eq65
returns-then-b-eq65 c = spells-no-At _ _ c.requires.peeked c.requires.at_in_bounds c.peek-c.ensures c.requires.b_value c.if-b-eq65.true c.if-c-eq116.false

pub returns-then-c-eq115 : goal.returns-then-c-eq115
returns-then-c-eq115 c = spells-Ts _ _ c.requires.peeked c.requires.at_in_bounds c.peek-c.ensures c.requires.b_value c.if-b-eq65.false c.if-c-eq115.true c.lettered-then-c-eq115.ensures

pub returns : goal.returns
returns c = spells-no-Ts _ _ c.requires.peeked c.requires.at_in_bounds c.peek-c.ensures c.requires.b_value c.if-b-eq65.false c.if-c-eq115.false
