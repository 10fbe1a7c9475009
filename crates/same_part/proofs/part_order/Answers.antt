use native.Mathlib.Omega.{arith}
use Rattle.kinds.proofs.Kind.{order_small}
use Rattle.same_part.proofs.Step.{value-chosen, value-open, value-order}
use Rattle.same_part.proofs.part_order.Goals as goal

pub returns-then-decided-chosen : goal.returns-then-decided-chosen
returns-then-decided-chosen c = value-chosen c.args.kind c.args.opened c.args.chosen c.args.decided c.if-decided-chosen.true

pub returns-then-decided-opened : goal.returns-then-decided-opened
returns-then-decided-opened c = value-open c.args.kind c.args.opened c.args.chosen c.args.decided c.if-decided-opened.true

pub overflow_cast-result : goal.overflow_cast-result
overflow_cast-result c = omega (arith, c.order.ensures, order_small c.args.kind)

pub returns : goal.returns
returns c = value-order c.args.kind c.args.opened c.args.chosen c.args.decided c.if-decided-chosen.false c.if-decided-opened.false c.order.ensures
