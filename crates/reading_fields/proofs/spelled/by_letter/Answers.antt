use mathlib.Core.Path.{sym, ◌∙◌}
use Rattle.reading_fields.proofs.Bytes.{some_in}
use Rattle.reading_fields.proofs.Letters.{spells-zero, spells-selected, spells_nothing}
use Rattle.reading_fields.proofs.spelled.by_letter.Goals as goal

pub returns-then-b-eq0 : goal.returns-then-b-eq0
returns-then-b-eq0 c = spells-zero _ _ c.requires.at_in_bounds c.requires.peeked c.if-b-eq0.true

pub letter_at-requires : goal.letter_at-requires
letter_at-requires c = record { at_in_bounds = some_in c.requires.peeked c.if-b-eq0.false; peeked = c.requires.peeked; b_value = sym c.atom_start.ensures ∙ c.in-Plain.is }

pub half_at-requires : goal.half_at-requires
half_at-requires c = record { at_in_bounds = some_in c.requires.peeked c.if-b-eq0.false; peeked = c.requires.peeked; b_value = sym c.atom_start.ensures ∙ c.in-Half.is }

pub boxed_at-requires : goal.boxed_at-requires
boxed_at-requires c = record { at_in_bounds = some_in c.requires.peeked c.if-b-eq0.false; peeked = c.requires.peeked; b_value = sym c.atom_start.ensures ∙ c.in-Bracket.is }

pub returns-in-Plain : goal.returns-in-Plain
returns-in-Plain c = c.letter_at.ensures

pub returns-in-Selected : goal.returns-in-Selected
returns-in-Selected c = spells-selected _ _ c.requires.peeked (some_in c.requires.peeked c.if-b-eq0.false) (sym c.atom_start.ensures ∙ c.in-Selected.is) c.lettered.ensures

pub returns-in-Half : goal.returns-in-Half
returns-in-Half c = c.half_at.ensures

pub returns-in-Bracket : goal.returns-in-Bracket
returns-in-Bracket c = c.boxed_at.ensures

pub returns-in-Nothing : goal.returns-in-Nothing
returns-in-Nothing c = spells_nothing _ _ c.requires.at_in_bounds c.requires.peeked (sym c.atom_start.ensures ∙ c.in-Nothing.is)
