use native.Mathlib.Omega.{arith}
use Rattle.kinds.proofs.Kind.{order_small}
use Rattle.same_drawing.proofs.Five.{chosen-order, other-order}
use Rattle.same_drawing.proofs.drawn_order.Goals as goal

pub returns-then-chosen-eq1 : goal.returns-then-chosen-eq1
returns-then-chosen-eq1 c = chosen-order _ _ c.if-chosen-eq1.true

pub overflow_cast-result : goal.overflow_cast-result
overflow_cast-result c = omega (arith, c.order.ensures, order_small c.args.kind)

pub returns : goal.returns
returns c = other-order _ _ c.if-chosen-eq1.false c.order.ensures
