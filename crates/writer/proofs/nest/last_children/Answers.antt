use Rattle.loops.proofs.Loops.{edited-start, edited-step, edited-end}
use mathlib.Core.Path.{refl}
use lib.ListN.{length-set}
use native.Mathlib.Omega.{arith}
use Rattle.writer.proofs.nest.last_children.Goals as goal

pub loop-x-init : goal.loop-x-init
loop-x-init c = edited-start

pub offset_bounds-up-x : goal.offset_bounds-up-x
offset_bounds-up-x c = let a = c.args in omega (arith, c.loop-x-test.true, c.requires.n_in_bounds.1)

pub bounds-up-x : goal.bounds-up-x
bounds-up-x c = let a = c.args in omega (arith, c.loop-x-test.true, c.requires.n_in_bounds.0)

pub overflow_cast-u : goal.overflow_cast-u
overflow_cast-u c = omega (arith, c.shared_slice_known-1.given c.loop-x.x)

pub overflow_cast-last : goal.overflow_cast-last
overflow_cast-last c = let a = c.args in omega (arith, c.loop-x-test.true, c.requires.n_in_bounds.1)

pub offset_bounds-last-u : goal.offset_bounds-last-u
offset_bounds-last-u c = omega (arith, c.shared_slice_known-1.given c.loop-x.x)

pub bounds-last-u : goal.bounds-last-u
bounds-last-u c = let a = c.args in omega (arith, c.requires.by_index c.loop-x.x c.loop-x-test.true, c.loop-x.invariant.room)

pub loop-x-preserved : goal.loop-x-preserved
loop-x-preserved c = edited-step c.loop-x.invariant _ c.loop-x-test.true refl (simp length-set)

pub shape_of-last : goal.shape_of-last
shape_of-last c = c.loop-x.invariant.room

pub returns : goal.returns
returns c = edited-end c.loop-x.invariant c.loop-x-test.false
