use native.Mathlib.Omega.{arith}
use Rattle.same_support.proofs.Standing.{gone-start, gone-low, gone-step, gone-end}
use Rattle.same_support.proofs.stand_beside.Goals as goal

pub loop-d-init : goal.loop-d-init
loop-d-init c = gone-start c.ranges.mask.fits

pub overflow_cast-skip : goal.overflow_cast-skip
overflow_cast-skip c = omega (arith, gone-low c.loop-d.invariant c.args.n c.loop-d-test.true)

pub overflow_add-d : goal.overflow_add-d
overflow_add-d c = omega (arith, gone-low c.loop-d.invariant c.args.n c.loop-d-test.true)

pub overflow_shr-rest : goal.overflow_shr-rest
overflow_shr-rest c = omega (arith, gone-low c.loop-d.invariant c.args.n c.loop-d-test.true)

pub overflow_mul-side : goal.overflow_mul-side
overflow_mul-side c = omega (arith, c.requires.1)

pub overflow_add-side : goal.overflow_add-side
overflow_add-side c = omega (arith, gone-low c.loop-d.invariant c.args.n c.loop-d-test.true, c.requires.1)

pub offset_bounds-allowed-c : goal.offset_bounds-allowed-c
offset_bounds-allowed-c c = omega (arith, gone-low c.loop-d.invariant c.args.n c.loop-d-test.true, c.requires.1)

pub bounds-allowed-c : goal.bounds-allowed-c
bounds-allowed-c c = omega (arith, gone-low c.loop-d.invariant c.args.n c.loop-d-test.true, c.requires.1)

pub overflow_add-d-in-loop-d : goal.overflow_add-d-in-loop-d
overflow_add-d-in-loop-d c = omega (arith, gone-low c.loop-d.invariant c.args.n c.loop-d-test.true)

pub loop-d-smaller : goal.loop-d-smaller
loop-d-smaller c = omega (arith, gone-low c.loop-d.invariant c.args.n c.loop-d-test.true)

pub loop-d-preserved : goal.loop-d-preserved
loop-d-preserved c = gone-step c.loop-d.invariant

pub returns : goal.returns
returns c = gone-end c.loop-d.invariant c.args.n c.loop-d-test.false
