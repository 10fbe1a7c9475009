use borrow.Author.Tests.{eq-eqb, ne_eqb}
use Rattle.matching_certified.proofs.in_cut.Goals as goal

pub returns-then-need-at-ne1 : goal.returns-then-need-at-ne1
returns-then-need-at-ne1 c = rw (ne_eqb _ _ c.if-need-at-ne1.true)

pub returns-then-lab-at-ne0 : goal.returns-then-lab-at-ne0
returns-then-lab-at-ne0 c = rw (eq-eqb _ _ c.if-need-at-ne1.false, ne_eqb _ _ c.if-lab-at-ne0.true)

pub returns : goal.returns
returns c = rw (eq-eqb _ _ c.if-need-at-ne1.false, eq-eqb _ _ c.if-lab-at-ne0.false)
