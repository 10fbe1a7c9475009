use borrow.Author.Tests.{eq-eqb, ne_eqb, le-leb, lt-leb}
use Rattle.reader_checks.proofs.mode.isotope_mode.Goals as goal

pub returns-then-i-eq0 : goal.returns-then-i-eq0
returns-then-i-eq0 c = rw (eq-eqb _ 0 c.if-i-eq0.true)

pub returns-then-i-le9 : goal.returns-then-i-le9
returns-then-i-le9 c = rw (ne_eqb _ 0 c.if-i-eq0.false, le-leb _ 9 c.if-i-le9.true)

pub returns-then-i-le99 : goal.returns-then-i-le99
returns-then-i-le99 c = rw (ne_eqb _ 0 c.if-i-eq0.false, lt-leb _ 9 c.if-i-le9.false, le-leb _ 99 c.if-i-le99.true)

pub returns : goal.returns
returns c = rw (ne_eqb _ 0 c.if-i-eq0.false, lt-leb _ 9 c.if-i-le9.false, lt-leb _ 99 c.if-i-le99.false)
