use borrow.Author.Tests.{eq-eqb, ne_eqb}
use Rattle.report_lines.proofs.output.bit.Goals as goal

pub returns-then-b-eq0 : goal.returns-then-b-eq0
returns-then-b-eq0 c = simp (eq-eqb _ _ c.if-b-eq0.true)

pub returns : goal.returns
returns c = simp (ne_eqb _ _ c.if-b-eq0.false)
