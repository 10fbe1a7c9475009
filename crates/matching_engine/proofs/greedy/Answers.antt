use native.Mathlib.Omega.{arith}
use Rattle.matching_engine.proofs.Taking.{taking-start, taking-end, taking-ends, taking-elided, taking_step}
use Rattle.matching_engine.proofs.greedy.Goals as goal

pub loop-at-init : goal.loop-at-init
loop-at-init c = taking-start c.requires

pub take_bond-requires : goal.take_bond-requires
take_bond-requires c = record { ends = taking-ends c.loop-at.invariant c.loop-at-test.true; k_in_bounds = taking-elided c.loop-at.invariant c.loop-at-test.true }

pub bounds-row-at : goal.bounds-row-at
bounds-row-at c = omega (arith, c.loop-at.invariant.shape.room, c.loop-at-test.true)

pub loop-at-preserved : goal.loop-at-preserved
loop-at-preserved c = taking_step c.loop-at.invariant c.loop-at-test.true c.take_bond.ensures c.take_bond.auto.need

pub shape_of-need : goal.shape_of-need
shape_of-need c = c.loop-at.invariant.flags

pub shape_of-row : goal.shape_of-row
shape_of-row c = c.loop-at.invariant.long

pub returns : goal.returns
returns c = taking-end c.loop-at.invariant c.loop-at-test.false c.all_paired.ensures
