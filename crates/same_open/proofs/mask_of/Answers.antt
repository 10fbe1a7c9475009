use native.Mathlib.Omega.{arith}
use Rattle.same_open.proofs.Masks.{masked-start, masked-end, masked-size, masked-room, masked-one, masked-none}
use Rattle.same_open.proofs.mask_of.Goals as goal

pub loop-e-init : goal.loop-e-init
loop-e-init g c = masked-start

pub overflow_mul-mask : goal.overflow_mul-mask
overflow_mul-mask g c = omega (arith, masked-room c.loop-e.invariant c.loop-e-test.true c.requires.few)

pub overflow_add-mask : goal.overflow_add-mask
overflow_add-mask g c = omega (arith, masked-room c.loop-e.invariant c.loop-e-test.true c.requires.few)

pub loop-e-preserved-then-test : goal.loop-e-preserved-then-test
loop-e-preserved-then-test g c = masked-one c.loop-e.invariant c.loop-e-test.true

pub loop-e-preserved : goal.loop-e-preserved
loop-e-preserved g c = masked-none c.loop-e.invariant c.loop-e-test.true (λ f. f c.if-test.ensures)

pub returns : goal.returns
returns g c = record { low = masked-size c.loop-e.invariant c.loop-e-test.false; held = masked-end c.loop-e.invariant c.loop-e-test.false }
