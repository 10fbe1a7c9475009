use native.Mathlib.Omega.{arith}
use Rattle.same_keys.proofs.Low.{low-more}
use Rattle.same_drawing.proofs.Matrix.{drawing-start, drawing-step, drawing-end}
use Rattle.same_drawing.proofs.fill_orders.Goals as goal

pub loop-k-init : goal.loop-k-init
loop-k-init c = drawing-start c.requires.low

pub bounds-row-k : goal.bounds-row-k
bounds-row-k c = omega (arith, c.requires.drawable.room, c.loop-k-test.true)

pub add_order-requires : goal.add_order-requires
add_order-requires c = record { ends = c.requires.drawable.ends c.loop-k.k c.loop-k-test.true; low = low-more c.loop-k.invariant.low (omega (arith, c.requires.drawable.few, c.loop-k-test.true)) }

pub loop-k-preserved : goal.loop-k-preserved
loop-k-preserved c = drawing-step c.loop-k.invariant c.loop-k-test.true c.add_order.ensures

pub returns : goal.returns
returns c = drawing-end c.loop-k.invariant c.loop-k-test.false
