use Rattle.reading_fields.proofs.Letters.{spells-Cl, spells-Br, spells-letter}
use Rattle.reading_fields.proofs.spelled.letter_at.Goals as goal

pub returns-then-b-c : goal.returns-then-b-c
returns-then-b-c c = spells-Cl _ _ c.requires.peeked c.requires.at_in_bounds c.peek-c.ensures c.requires.b_value c.if-b-c.true c.lettered.ensures

pub returns-then-b-c-2 : goal.returns-then-b-c-2
returns-then-b-c-2 c = spells-Br _ _ c.requires.peeked c.requires.at_in_bounds c.peek-c.ensures c.requires.b_value c.if-b-c-2.true c.lettered-then-b-c-2.ensures

pub returns : goal.returns
returns c = spells-letter _ _ c.requires.peeked c.requires.at_in_bounds c.requires.b_value c.peek-c.ensures c.if-b-c.false c.if-b-c-2.false c.lettered-2.ensures
