use borrow.Author.Tests.{eq-eqb, ne_eqb}
use Rattle.reader.proofs.atom.is_bonded.Goals as goal

pub returns-then-n-eq0 : goal.returns-then-n-eq0
returns-then-n-eq0 c = simp (eq-eqb _ _ c.if-n-eq0.true)

pub returns-in-Elided : goal.returns-in-Elided
returns-in-Elided c = simp (ne_eqb _ _ c.if-n-eq0.false, c.in-Elided.is)

pub returns-in-Dot : goal.returns-in-Dot
returns-in-Dot c = simp (ne_eqb _ _ c.if-n-eq0.false, c.in-Dot.is)

pub returns-in-Symbol : goal.returns-in-Symbol
returns-in-Symbol c = simp (ne_eqb _ _ c.if-n-eq0.false, c.in-Symbol.is)
