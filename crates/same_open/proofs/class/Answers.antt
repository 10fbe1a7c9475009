use mathlib.Core.Path.{sym}
use Rattle.same_open.proofs.Laws.{class-few, class-other, class-open}
use Rattle.same_open.proofs.class.Goals as goal

pub returns-then-u-lt4 : goal.returns-then-u-lt4
returns-then-u-lt4 c = sym (class-few _ c.if-u-lt4.true)

pub returns-then-u-ge-OPEN : goal.returns-then-u-ge-OPEN
returns-then-u-ge-OPEN c = sym (class-open _ c.if-u-ge-OPEN.true)

pub returns : goal.returns
returns c = sym (class-other _ c.if-u-lt4.false c.if-u-ge-OPEN.false)
