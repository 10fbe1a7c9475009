use Prim.Native.Nat.{◌+◌}
use native.Mathlib.Omega.{arith}
use lib.Count.{count_trailing_zeros}
use Rattle.same_place.specs.Place.{entry}
use Rattle.same_keys.specs.Keys.{at}
use Rattle.same_finer.proofs.Low.{times-bound}
use Rattle.same_finer.proofs.Nearby.{summed-start, summed-low, summed-step, summed-end}
use Rattle.same_finer.proofs.next_key.Goals as goal

pub loop-rest-init : goal.loop-rest-init
loop-rest-init c = summed-start

pub overflow_cast-skip : goal.overflow_cast-skip
overflow_cast-skip c = omega (arith, summed-low c.requires.2 c.loop-rest.invariant c.loop-rest-test.true)

pub overflow_add-b : goal.overflow_add-b
overflow_add-b c = omega (arith, summed-low c.requires.2 c.loop-rest.invariant c.loop-rest-test.true)

pub overflow_shr-rest : goal.overflow_shr-rest
overflow_shr-rest c = omega (arith, summed-low c.requires.2 c.loop-rest.invariant c.loop-rest-test.true)

pub overflow_add-a : goal.overflow_add-a
overflow_add-a c = omega (arith, summed-low c.requires.2 c.loop-rest.invariant c.loop-rest-test.true)

pub offset_bounds-w-a : goal.offset_bounds-w-a
offset_bounds-w-a c = omega (arith, summed-low c.requires.2 c.loop-rest.invariant c.loop-rest-test.true)

pub bounds-w-a : goal.bounds-w-a
bounds-w-a c = omega (arith, summed-low c.requires.2 c.loop-rest.invariant c.loop-rest-test.true)

pub offset_bounds-mixed-b : goal.offset_bounds-mixed-b
offset_bounds-mixed-b c = omega (arith, summed-low c.requires.2 c.loop-rest.invariant c.loop-rest-test.true)

pub bounds-mixed-b : goal.bounds-mixed-b
bounds-mixed-b c = omega (arith, summed-low c.requires.2 c.loop-rest.invariant c.loop-rest-test.true)

pub overflow_add-sum : goal.overflow_add-sum
overflow_add-sum c = let b = c.loop-rest.b + count_trailing_zeros 64 c.loop-rest.rest in
    omega (arith, c.times_low-sum.ensures, times-bound (entry c.args.w.now c.args.a b) (at c.args.mixed.now b), c.loop-rest.invariant.low, summed-low c.requires.2 c.loop-rest.invariant c.loop-rest-test.true)

pub overflow_add-b-in-loop-rest : goal.overflow_add-b-in-loop-rest
overflow_add-b-in-loop-rest c = omega (arith, summed-low c.requires.2 c.loop-rest.invariant c.loop-rest-test.true)

pub loop-rest-smaller : goal.loop-rest-smaller
loop-rest-smaller c = omega (arith, summed-low c.requires.2 c.loop-rest.invariant c.loop-rest-test.true)

pub loop-rest-preserved : goal.loop-rest-preserved
loop-rest-preserved c = summed-step c.requires.2 c.loop-rest.invariant c.loop-rest-test.true c.times_low-sum.ensures

pub returns : goal.returns
returns c = summed-end c.requires.2 c.loop-rest.invariant c.loop-rest-test.false
