use borrow.Author.Tests.{eq-eqb, ne_eqb}
use Rattle.reader.proofs.ending.first_rank.Goals as goal

pub returns-then-key-eq0 : goal.returns-then-key-eq0
returns-then-key-eq0 c = simp (eq-eqb _ _ c.if-key-eq0.true)

pub returns : goal.returns
returns c = simp (ne_eqb _ _ c.if-key-eq0.false)
