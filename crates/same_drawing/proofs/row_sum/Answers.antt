use Prim.Native.Nat.{ℕ, ◌+◌}
use native.Mathlib.Omega.{arith}
use mathlib.Core.Path.{ap}
use lib.ListN.{get_or}
use Rattle.loops.proofs.Loops.{ran-start, ran-step, ran-end}
use Rattle.same_drawing.specs.Drawing.{row_sum}
use Rattle.same_drawing.proofs.Weights.{weight-low}
use Rattle.same_drawing.proofs.row_sum.Goals as goal

pub loop-k-init : goal.loop-k-init
loop-k-init c = (ran-start, omega arith)

pub bounds-row-k : goal.bounds-row-k
bounds-row-k c = omega (arith, c.requires.drawable.room, c.loop-k-test.true)

pub bond_weight-sum-requires : goal.bond_weight-sum-requires
bond_weight-sum-requires c = record { ends = c.requires.drawable.ends c.loop-k.k c.loop-k-test.true; low = c.requires.low }

pub overflow_add-sum : goal.overflow_add-sum
overflow_add-sum c = omega (arith, c.bond_weight-sum.ensures, weight-low c.args.bonds.now c.args.keys.now (get_or c.args.row.now c.loop-k.k 0) c.loop-k.k, c.loop-k.invariant.1, c.requires.drawable.few, c.loop-k-test.true)

pub loop-k-preserved : goal.loop-k-preserved
loop-k-preserved c = (ran-step c.loop-k.invariant.0 _ c.loop-k-test.true (ap (λ (z : ℕ). c.loop-k.sum + z) c.bond_weight-sum.ensures), omega (arith, c.bond_weight-sum.ensures, weight-low c.args.bonds.now c.args.keys.now (get_or c.args.row.now c.loop-k.k 0) c.loop-k.k, c.loop-k.invariant.1))

pub returns : goal.returns
unfolding row_sum
returns c = ran-end c.loop-k.invariant.0 c.loop-k-test.false
