use native.Mathlib.Omega.{arith}
use Rattle.loops.proofs.Loops.{edited-start, filled-step, filled-end}
use Rattle.conformation.proofs.fill.Goals as goal

pub loop-i-init : goal.loop-i-init
loop-i-init c = edited-start

pub side_of-requires : goal.side_of-requires
side_of-requires c = (omega arith, omega arith)

pub bounds-row-i : goal.bounds-row-i
bounds-row-i c = omega (arith, c.loop-i.invariant.room)

pub loop-i-preserved : goal.loop-i-preserved
loop-i-preserved c = filled-step c.loop-i.invariant _ c.loop-i-test.true c.side_of.ensures

pub shape_of-row : goal.shape_of-row
shape_of-row c = c.loop-i.invariant.room

pub returns : goal.returns
returns c = filled-end c.loop-i.invariant c.requires.1 c.loop-i-test.false
