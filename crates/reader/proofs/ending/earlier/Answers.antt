use borrow.Author.Tests.{eq-eqb, ne_eqb, lt-ltb, le-ltb}
use Rattle.reader.proofs.ending.earlier.Goals as goal

pub returns-then-opener-eq0 : goal.returns-then-opener-eq0
returns-then-opener-eq0 c = simp (eq-eqb _ _ c.if-opener-eq0.true)

pub returns-then-q-p : goal.returns-then-q-p
returns-then-q-p c = simp (ne_eqb _ _ c.if-opener-eq0.false, lt-ltb _ _ c.if-q-p.true)

pub returns : goal.returns
returns c = simp (ne_eqb _ _ c.if-opener-eq0.false, le-ltb _ _ c.if-q-p.false)
