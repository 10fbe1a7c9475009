use mathlib.Core.Path.{◌∙◌}
use borrow.Author.Tests.{eq-eqb, ne_eqb}
use Rattle.reader_pieces.proofs.run.mode_in.Goals as goal

pub returns-then-p-eq0 : goal.returns-then-p-eq0
returns-then-p-eq0 c = rw (eq-eqb _ 0 c.if-p-eq0.true)

pub returns : goal.returns
returns c = c.mode_of.ensures ∙ rw (ne_eqb _ 0 c.if-p-eq0.false)
