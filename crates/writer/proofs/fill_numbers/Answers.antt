use Rattle.loops.proofs.Loops.{edited-start, filled-step, filled-end}
use mathlib.Core.Path.{refl}
use native.Mathlib.Omega.{arith}
use Rattle.writer.proofs.fill_numbers.Goals as goal

pub loop-a-init : goal.loop-a-init
loop-a-init c = edited-start

pub offset_bounds-number-a : goal.offset_bounds-number-a
offset_bounds-number-a c = omega (arith, c.loop-a-test.true, c.requires.n_in_bounds.0, c.well_formed.0.1)

pub bounds-number-a : goal.bounds-number-a
bounds-number-a c = omega (arith, c.loop-a-test.true, c.requires.n_in_bounds.0)

pub overflow_sub-ren : goal.overflow_sub-ren
overflow_sub-ren c = omega (arith, c.requires.by_index c.loop-a.a c.loop-a-test.true)

pub offset_bounds-ren-a : goal.offset_bounds-ren-a
offset_bounds-ren-a c = omega (arith, c.loop-a-test.true, c.requires.n_in_bounds.0, c.well_formed.0.1)

pub bounds-ren-a : goal.bounds-ren-a
bounds-ren-a c = omega (arith, c.loop-a-test.true, c.requires.n_in_bounds.1, c.loop-a.invariant.room)

pub loop-a-preserved : goal.loop-a-preserved
loop-a-preserved c = filled-step c.loop-a.invariant _ c.loop-a-test.true refl

pub shape_of-ren : goal.shape_of-ren
shape_of-ren c = c.loop-a.invariant.room

pub returns : goal.returns
returns c = filled-end c.loop-a.invariant c.requires.n_in_bounds.1 c.loop-a-test.false
