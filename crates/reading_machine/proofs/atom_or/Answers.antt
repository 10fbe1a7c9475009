use mathlib.Core.Path.{sym, ◌∙◌}
use Rattle.reading_machine.proofs.Letters.{plain-first, selected-first, half-first, bracket-first, nothing-first}
use Rattle.reading_machine.proofs.atom_or.Goals as goal

pub returns-in-Plain : goal.returns-in-Plain
returns-in-Plain c = rw c.last_of.ensures (plain-first _ _ (sym c.atom_start.ensures ∙ c.in-Plain.is))

pub returns-in-Selected : goal.returns-in-Selected
returns-in-Selected c = selected-first _ _ (sym c.atom_start.ensures ∙ c.in-Selected.is)

pub returns-in-Half : goal.returns-in-Half
returns-in-Half c = c.half.ensures ∙ half-first _ _ (sym c.atom_start.ensures ∙ c.in-Half.is)

pub returns-in-Bracket : goal.returns-in-Bracket
returns-in-Bracket c = bracket-first _ _ (sym c.atom_start.ensures ∙ c.in-Bracket.is)

pub returns-in-Nothing : goal.returns-in-Nothing
returns-in-Nothing c = nothing-first _ _ (sym c.atom_start.ensures ∙ c.in-Nothing.is)
