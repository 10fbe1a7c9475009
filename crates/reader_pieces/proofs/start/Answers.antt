use mathlib.Core.Path.{sym, ◌∙◌}
use borrow.Author.Tests.{not-true, not-false}
use Rattle.reading_pieces.specs.Calls.{start_of}
use Rattle.reader_pieces.proofs.start.Goals as goal

pub returns-then-not-enough : goal.returns-then-not-enough
unfolding start_of
returns-then-not-enough c = rw (c.reply.ensures, c.blank.ensures, sym c.enough.ensures ∙ not-true _ c.if-not-enough.true-raw)

pub returns : goal.returns
unfolding start_of
returns c = c.refuse.ensures ∙ rw (c.blank-2.ensures, sym c.enough.ensures ∙ not-false _ c.if-not-enough.false-raw)
