use mathlib.Core.Bool.{true}
use mathlib.Core.Path.{refl}
use native.Mathlib.Omega.{arith}
use Rattle.same_open.proofs.Seeking.{found-not}
use Rattle.same_support.proofs.Leaving.{follows-start, follows_same, follows_on}
use Rattle.same_support.proofs.settle.Goals as goal
use Rattle.same_support.proofs.settle.Goals.{then-fresh+then-next-w+else-not-spread, else-fresh}

pub loop-w-init : goal.loop-w-init
loop-w-init c = follows-start

pub bounds-placed-w : goal.bounds-placed-w
bounds-placed-w c = omega (arith, c.loop-w-test.true, c.requires)

pub offset_bounds-next-w : goal.offset_bounds-next-w
offset_bounds-next-w c = omega (arith, c.loop-w-test.true, c.requires)

pub bounds-next-w : goal.bounds-next-w
bounds-next-w c = omega (arith, c.loop-w-test.true, c.requires)

pub offset_bounds-seen-w : goal.offset_bounds-seen-w
offset_bounds-seen-w c = omega (arith, c.loop-w-test.true, c.requires)

pub bounds-seen-w : goal.bounds-seen-w
bounds-seen-w c = omega (arith, c.loop-w-test.true, c.requires)

pub offset_bounds-next-w-then-fresh : goal.offset_bounds-next-w-then-fresh
offset_bounds-next-w-then-fresh c = omega (arith, c.loop-w-test.true, c.requires)

pub bounds-next-w-then-fresh : goal.bounds-next-w-then-fresh
bounds-next-w-then-fresh c = omega (arith, c.loop-w-test.true, c.requires)

pub offset_bounds-next-w-then-next-w : goal.offset_bounds-next-w-then-next-w
offset_bounds-next-w-then-next-w c = omega (arith, c.loop-w-test.true, c.requires)

pub bounds-next-w-then-next-w : goal.bounds-next-w-then-next-w
bounds-next-w-then-next-w c = omega (arith, c.loop-w-test.true, c.requires)

pub offset_bounds-seen-w-then-next-w : goal.offset_bounds-seen-w-then-next-w
offset_bounds-seen-w-then-next-w c = omega (arith, c.loop-w-test.true, c.requires)

pub bounds-seen-w-then-next-w : goal.bounds-seen-w-then-next-w
bounds-seen-w-then-next-w c = omega (arith, c.loop-w-test.true, c.requires)

pub spread-requires : goal.spread-requires
spread-requires c = (c.requires, c.loop-w-test.true)

pub returns-then-not-spread : goal.returns-then-not-spread
returns-then-not-spread c = record { by_index = (follows_on c.loop-w.invariant c.spread.ensures.by_index).among; fact = λ f t a. c.spread.ensures.fact c.if-not-spread.true t (c.loop-w.invariant.among t a) }

pub loop-w-preserved : goal.loop-w-preserved
loop-w-preserved c = elim c.if-fresh.branch [ then-fresh+then-next-w+else-not-spread w ↦ follows_same (follows_on c.loop-w.invariant w.spread.ensures.by_index) w.next-is | else-fresh w ↦ follows_same c.loop-w.invariant w.next-is ]

pub returns : goal.returns
returns c = record { by_index = c.loop-w.invariant.among; fact = λ f. found-not {r = true} refl f }
