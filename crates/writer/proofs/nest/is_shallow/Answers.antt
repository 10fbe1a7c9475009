use Rattle.writer.proofs.Nesting.{nests-start, nests-deep, nests-step, nests-end, few-nest}
use lib.ListN.{get_or}
use native.Mathlib.Omega.{arith}
use Rattle.writer.proofs.nest.is_shallow.Goals as goal

pub returns-then-n-le-MAX_DEPTH : goal.returns-then-n-le-MAX_DEPTH
returns-then-n-le-MAX_DEPTH c = few-nest _ _ 0 _ 0 (omega (arith, c.if-n-le-MAX_DEPTH.true))

pub loop-x-init : goal.loop-x-init
loop-x-init c = nests-start

pub offset_bounds-up-x : goal.offset_bounds-up-x
offset_bounds-up-x c = let a = c.args in omega (arith, c.loop-x-test.true, c.requires.n_in_bounds, c.well_formed.0.1)

pub bounds-up-x : goal.bounds-up-x
bounds-up-x c = let a = c.args in omega (arith, c.loop-x-test.true, c.requires.n_in_bounds)

pub overflow_cast-u : goal.overflow_cast-u
overflow_cast-u c = omega (arith, c.shared_slice_known-in-loop-x-1.given c.loop-x.x)

pub offset_bounds-last-u : goal.offset_bounds-last-u
offset_bounds-last-u c = omega (arith, c.shared_slice_known-in-loop-x-1.given c.loop-x.x)

pub bounds-last-u : goal.bounds-last-u
bounds-last-u c = let a = c.args in c.requires.by_index c.loop-x.x c.loop-x-test.true

pub overflow_cast-last : goal.overflow_cast-last
overflow_cast-last c = let a = c.args in omega (arith, c.shared_slice_known-in-loop-x-2-1.given (get_or a.up.now c.loop-x.x 0))

pub returns-then-depth-gt-MAX_DEPTH : goal.returns-then-depth-gt-MAX_DEPTH
returns-then-depth-gt-MAX_DEPTH c = nests-deep c.loop-x.invariant c.loop-x-test.true c.depth_after-depth.ensures c.if-depth-gt-MAX_DEPTH.true

pub loop-x-preserved : goal.loop-x-preserved
loop-x-preserved c = nests-step c.loop-x.invariant c.loop-x-test.true c.depth_after-depth.ensures c.if-depth-gt-MAX_DEPTH.false

pub returns : goal.returns
returns c = nests-end c.loop-x.invariant c.loop-x-test.false
