use Rattle.writing_bridges.proofs.Slots.{looked-first, looked-second, looked-two}
use native.Mathlib.Omega.{arith}
use Rattle.writing_bridges.proofs.slot_of.Goals as goal

pub overflow_cast-slots : goal.overflow_cast-slots
overflow_cast-slots c = omega (arith, c.shared_slice_known-2-1.given 0)

pub returns-then-slots-x : goal.returns-then-slots-x
returns-then-slots-x c = (looked-first _ _ c.if-slots-lt2.false c.if-slots-x.true, omega (arith, c.if-slots-lt2.false))

pub overflow_cast-slots-2 : goal.overflow_cast-slots-2
overflow_cast-slots-2 c = omega (arith, c.shared_slice_known-3-1.given 1)

pub returns-then-slots-x-2 : goal.returns-then-slots-x-2
returns-then-slots-x-2 c = (looked-second _ _ c.if-slots-lt2.false c.if-slots-x.false c.if-slots-x-2.true, omega (arith, c.if-slots-lt2.false))

pub slot_from-requires-2 : goal.slot_from-requires-2
slot_from-requires-2 c = looked-two _ _ c.if-slots-lt2.false c.if-slots-x.false c.if-slots-x-2.false
