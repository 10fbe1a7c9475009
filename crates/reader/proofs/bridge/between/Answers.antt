use borrow.Author.Tests.{lt-ltb, le-ltb}
use mathlib.Core.Path.{◌∙◌}
use Rattle.reader.proofs.bridge.between.Goals as goal

pub returns-then-a-b : goal.returns-then-a-b
returns-then-a-b c = c.bond_of.ensures ∙ simp (lt-ltb _ _ c.if-a-b.true)

pub returns : goal.returns
returns c = c.bond_of-2.ensures ∙ simp (le-ltb _ _ c.if-a-b.false, c.turned-back.ensures)
