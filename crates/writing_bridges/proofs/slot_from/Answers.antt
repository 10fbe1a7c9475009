use Rattle.writing_bridges.proofs.Slots.{looked-hit, looked-pass, looked-end}
use native.Mathlib.Omega.{arith}
use Rattle.writing_bridges.proofs.slot_from.Goals as goal

pub loop-i-init : goal.loop-i-init
loop-i-init c = c.requires

pub offset_bounds-slots-i : goal.offset_bounds-slots-i
offset_bounds-slots-i c = omega (arith, c.well_formed.0.1)

pub overflow_cast-slots : goal.overflow_cast-slots
overflow_cast-slots c = omega (arith, c.shared_slice_known-1.given c.loop-i.i)

pub returns-then-slots-i : goal.returns-then-slots-i
returns-then-slots-i c = (looked-hit c.loop-i.invariant c.loop-i-test.true c.if-slots-i.true, c.loop-i-test.true)

pub loop-i-preserved : goal.loop-i-preserved
loop-i-preserved c = looked-pass c.loop-i.invariant c.loop-i-test.true c.if-slots-i.false

pub returns : goal.returns
returns c = let i = c.loop-i.invariant in
    let e = looked-end i c.loop-i-test.false in
    omega (arith, i.within, c.loop-i-test.false, e)
