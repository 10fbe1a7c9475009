use borrow.Author.Tests.{eq-eqb, ne_eqb, le-leb, lt-leb}
use Rattle.reader_checks.proofs.mode.extension_mode.Goals as goal

pub returns-then-e-eq0 : goal.returns-then-e-eq0
returns-then-e-eq0 c = rw (eq-eqb _ 0 c.if-e-eq0.true)

pub returns-then-e-le9 : goal.returns-then-e-le9
returns-then-e-le9 c = rw (ne_eqb _ 0 c.if-e-eq0.false, le-leb _ 9 c.if-e-le9.true)

pub returns-then-e-le99 : goal.returns-then-e-le99
returns-then-e-le99 c = rw (ne_eqb _ 0 c.if-e-eq0.false, lt-leb _ 9 c.if-e-le9.false, le-leb _ 99 c.if-e-le99.true)

pub returns-then-e-le999 : goal.returns-then-e-le999
returns-then-e-le999 c = rw (ne_eqb _ 0 c.if-e-eq0.false, lt-leb _ 9 c.if-e-le9.false, lt-leb _ 99 c.if-e-le99.false, le-leb _ 999 c.if-e-le999.true)

pub returns : goal.returns
returns c = rw (ne_eqb _ 0 c.if-e-eq0.false, lt-leb _ 9 c.if-e-le9.false, lt-leb _ 99 c.if-e-le99.false, lt-leb _ 999 c.if-e-le999.false)
