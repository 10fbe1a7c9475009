use mathlib.Core.Path.{sym, ◌∙◌}
use borrow.Author.Tests.{not-true, not-false}
use Rattle.table.specs.Sound.{check_of}
use Rattle.table_validity.proofs.check_tables.Goals as goal

pub returns-then-not-enough : goal.returns-then-not-enough
unfolding check_of
returns-then-not-enough c = simp (sym c.enough.ensures ∙ not-true _ c.if-not-enough.true-raw)

pub returns-then-not-sound : goal.returns-then-not-sound
unfolding check_of
returns-then-not-sound c = simp (sym c.enough.ensures ∙ not-false _ c.if-not-enough.false-raw, sym c.sound.ensures ∙ not-true _ c.if-not-sound.true-raw)

pub returns : goal.returns
unfolding check_of
returns c = simp (sym c.enough.ensures ∙ not-false _ c.if-not-enough.false-raw, sym c.sound.ensures ∙ not-false _ c.if-not-sound.false-raw)
