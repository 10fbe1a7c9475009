use native.Mathlib.Omega.{arith}
use Rattle.same_keys.proofs.Low.{low-more}
use Rattle.same_keys.proofs.Spreading.{refining-start, refining-step, refining-end}
use Rattle.same_keys.proofs.refine.Goals as goal

pub loop-i-init : goal.loop-i-init
loop-i-init c = refining-start c.requires.r_bound.1 c.requires.r_bound.2

pub next_keys-requires : goal.next_keys-requires
next_keys-requires c = let v = c.loop-i.invariant in
    record { inside = c.requires.inside; n_in_bounds = (omega (arith, c.requires.n_in_bounds.0, v.mixed-room), omega (arith, c.requires.n_in_bounds.1, v.room)); low = (v.mixed-low, low-more v.low (omega (arith, c.requires.r_bound.0, c.loop-i-test.true))) }

pub loop-i-preserved : goal.loop-i-preserved
loop-i-preserved c = let x = c.next_keys in
    refining-step c.loop-i.invariant c.requires.inside.few c.loop-i-test.true x.ensures.keys_after x.ensures.low_2 x.auto.mixed

pub shape_of-mixed : goal.shape_of-mixed
shape_of-mixed c = c.loop-i.invariant.mixed-room

pub shape_of-keys : goal.shape_of-keys
shape_of-keys c = c.loop-i.invariant.room

pub returns : goal.returns
returns c = refining-end c.loop-i.invariant c.loop-i-test.false
