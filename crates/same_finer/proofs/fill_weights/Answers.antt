use native.Mathlib.Omega.{arith}
use Rattle.loops.proofs.Loops.{edited-start, filled-step, filled-end}
use Rattle.same_finer.proofs.fill_weights.Goals as goal

pub loop-i-init : goal.loop-i-init
loop-i-init c = edited-start

pub weight_cell-requires : goal.weight_cell-requires
weight_cell-requires c = omega (arith, c.loop-i-test.true, c.requires.0)

pub loop-i-preserved : goal.loop-i-preserved
loop-i-preserved c = filled-step c.loop-i.invariant _ c.loop-i-test.true c.weight_cell.ensures

pub returns : goal.returns
returns c = filled-end c.loop-i.invariant (omega (arith, c.requires)) c.loop-i-test.false
