use Rattle.reading_fields.proofs.Letters.{spells-selected}
use Rattle.reading_fields.proofs.Common.{known_in, is_c, is-n, is-C, is-O, is-N}
use Rattle.reading_fields.proofs.spelled.read_spelling.Goals as goal

pub returns-then-b-eq99 : goal.returns-then-b-eq99
returns-then-b-eq99 c = spells-selected _ _ c.peek-b.ensures (known_in c.peek-b.ensures c.if-b-eq99.true) (is_c c.if-b-eq99.true) c.lettered.ensures

pub letter_at-requires : goal.letter_at-requires
letter_at-requires c = record { at_in_bounds = known_in c.peek-b.ensures c.if-b-eq67.true; peeked = c.peek-b.ensures; b_value = is-C c.if-b-eq67.true }

pub letter_at-requires-then-b-eq79 : goal.letter_at-requires-then-b-eq79
letter_at-requires-then-b-eq79 c = record { at_in_bounds = known_in c.peek-b.ensures c.if-b-eq79.true; peeked = c.peek-b.ensures; b_value = is-O c.if-b-eq79.true }

pub letter_at-requires-then-b-eq78 : goal.letter_at-requires-then-b-eq78
letter_at-requires-then-b-eq78 c = record { at_in_bounds = known_in c.peek-b.ensures c.if-b-eq78.true; peeked = c.peek-b.ensures; b_value = is-N c.if-b-eq78.true }

pub returns-then-b-eq110 : goal.returns-then-b-eq110
returns-then-b-eq110 c = spells-selected _ _ c.peek-b.ensures (known_in c.peek-b.ensures c.if-b-eq110.true) (is-n c.if-b-eq110.true) c.lettered-then-b-eq110.ensures
