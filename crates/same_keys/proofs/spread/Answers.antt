use native.Mathlib.Omega.{arith}
use mathlib.Core.Path.{refl}
use Rattle.same_keys.proofs.Spreading.{spreading-start, spreading-step, spreading-end}
use Rattle.same_keys.proofs.Low.{low-more}
use Rattle.same_keys.proofs.spread.Goals as goal

pub loop-k-init : goal.loop-k-init
loop-k-init c = spreading-start c.requires.low.1

pub bounds-firsts-k : goal.bounds-firsts-k
bounds-firsts-k c = omega (arith, c.requires.inside.0.firsts, c.loop-k-test.true)

pub overflow_cast-firsts : goal.overflow_cast-firsts
overflow_cast-firsts c = omega (arith, c.requires.inside.0.first c.loop-k.k c.loop-k-test.true)

pub bounds-seconds-k : goal.bounds-seconds-k
bounds-seconds-k c = omega (arith, c.requires.inside.0.seconds, c.loop-k-test.true)

pub overflow_cast-seconds : goal.overflow_cast-seconds
overflow_cast-seconds c = omega (arith, c.requires.inside.0.second c.loop-k.k c.loop-k-test.true)

pub join-requires : goal.join-requires
join-requires c = let v = c.loop-k in
    let l = c.loop-k-test.true in
    let e = v.invariant.room in
    record { a_in_bounds = (omega (arith, c.requires.inside.1.first v.k l, e), omega (arith, c.requires.inside.1.second v.k l, e)); a_in_bounds_2 = (c.requires.inside.0.first v.k l, c.requires.inside.0.second v.k l); low = (c.requires.low.0, low-more v.invariant.low (omega (arith, c.requires.inside.0.few, l))) }

pub loop-k-preserved : goal.loop-k-preserved
loop-k-preserved c = spreading-step c.loop-k.invariant c.requires.low.0 c.loop-k-test.true refl refl c.join.ensures

pub shape_of-keys : goal.shape_of-keys
shape_of-keys c = c.loop-k.invariant.room

pub returns : goal.returns
returns c = spreading-end c.loop-k.invariant c.loop-k-test.false
