use lib.Seq.{set_out}
use borrow.Author.Tests.{eq-eqb, ne_eqb}
use mathlib.Core.Path.{sym}
use Rattle.matching_certified.proofs.flip.Goals as goal

pub returns-then-l-odd : goal.returns-then-l-odd
returns-then-l-odd c = rw (eq-eqb _ _ c.if-need-at-eq1.true)

pub returns-else-l-odd : goal.returns-else-l-odd
returns-else-l-odd c = rw (eq-eqb _ _ c.if-need-at-eq1.true) (sym (set_out _ _ _ c.if-l-odd.false))

pub returns-else-need-at-eq1 : goal.returns-else-need-at-eq1
returns-else-need-at-eq1 c = rw (ne_eqb _ _ c.if-need-at-eq1.false)
