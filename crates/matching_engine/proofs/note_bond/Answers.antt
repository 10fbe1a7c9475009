use mathlib.Core.Path.{sym, ◌∙◌}
use Rattle.matching_engine.proofs.note_bond.Goals as goal

pub returns-then-choosable : goal.returns-then-choosable
returns-then-choosable c = rw (sym c.choosable.ensures ∙ c.if-choosable.true) (c.note-then-choosable.ensures ∙ rw (c.note.ensures, c.end_of.ensures, c.end_of-then-choosable.ensures))

pub returns-else-choosable : goal.returns-else-choosable
returns-else-choosable c = rw (sym c.choosable.ensures ∙ c.if-choosable.false)
