use mathlib.Core.Bool.{true}
use mathlib.Core.Path.{refl}
use native.Mathlib.Omega.{arith}
use Rattle.same_open.proofs.Laws.{class-told}
use Rattle.same_open.proofs.Seeking.{found-not}
use Rattle.same_support.proofs.Leaving.{spreads-start, spreads-same, spreads-new, spreads-old, spreads-step, spreads-none}
use Rattle.same_support.proofs.spread.Goals as goal
use Rattle.same_support.proofs.spread.Goals.{then-b-w+else-not-keep, then-other-c, else-other-c, else-b-w}

pub loop-i-init : goal.loop-i-init
loop-i-init c = spreads-start

pub overflow_mul-b : goal.overflow_mul-b
overflow_mul-b c = omega (arith, c.loop-i-test.true, c.requires.0, c.requires.1)

pub overflow_add-b : goal.overflow_add-b
overflow_add-b c = omega (arith, c.loop-i-test.true, c.requires.0, c.requires.1)

pub bounds-near-w : goal.bounds-near-w
bounds-near-w c = omega (arith, c.loop-i-test.true, c.requires.0, c.requires.1)

pub returns-then-n-b : goal.returns-then-n-b
returns-then-n-b c = record { by_index = c.loop-i.invariant.follows.among; fact = λ f. found-not {r = true} refl f }

pub overflow_mul-w : goal.overflow_mul-w
overflow_mul-w c = omega (arith, c.if-n-b.false, c.requires.0, c.requires.1)

pub overflow_add-w : goal.overflow_add-w
overflow_add-w c = omega (arith, c.if-n-b.false, c.requires.0, c.requires.1)

pub offset_bounds-p-w : goal.offset_bounds-p-w
offset_bounds-p-w c = omega (arith, c.if-n-b.false, c.requires.0, c.requires.1)

pub bounds-p-w : goal.bounds-p-w
bounds-p-w c = omega (arith, c.if-n-b.false, c.requires.0, c.requires.1)

pub offset_bounds-next-w : goal.offset_bounds-next-w
offset_bounds-next-w c = omega (arith, c.requires.0, c.requires.1)

pub bounds-next-w : goal.bounds-next-w
bounds-next-w c = omega (arith, c.requires.0, c.requires.1)

pub stand_beside-side-requires : goal.stand_beside-side-requires
stand_beside-side-requires c = (c.requires.0, class-told _ _ c.class-other.ensures)

pub keep-requires : goal.keep-requires
keep-requires c = omega (arith, c.if-n-b.false, c.requires.0)

pub returns-then-not-keep : goal.returns-then-not-keep
returns-then-not-keep c =
    let f = c.if-n-b.false in
    elim c.if-other-c.branch [ then-other-c x ↦ (let g = spreads-new c.loop-i.invariant c.class-other.ensures x.c-is x.side-is x.stand_beside-side.ensures in record { by_index = (spreads-step g c.requires.1 f c.if-b-w.true c.keep.ensures).follows.among; fact = λ z. spreads-none g c.requires.1 f c.if-b-w.true c.keep.ensures c.if-not-keep.true }) | else-other-c x ↦ (let g = spreads-old c.loop-i.invariant c.class-other.ensures x.if-other-c.false x.c-is x.side-is in record { by_index = (spreads-step g c.requires.1 f c.if-b-w.true c.keep.ensures).follows.among; fact = λ z. spreads-none g c.requires.1 f c.if-b-w.true c.keep.ensures c.if-not-keep.true }) ]

pub loop-i-preserved : goal.loop-i-preserved
loop-i-preserved c =
    let u = c.loop-i.invariant in
    let f = c.if-n-b.false in
    elim c.if-b-w.branch [ then-b-w+else-not-keep w ↦ (elim w.if-other-c.branch [ then-other-c x ↦ spreads-same (spreads-step (spreads-new u w.class-other.ensures x.c-is x.side-is x.stand_beside-side.ensures) c.requires.1 f w.if-b-w.true w.keep.ensures) w.next-is w.c-is w.side-is | else-other-c x ↦ spreads-same (spreads-step (spreads-old u w.class-other.ensures x.if-other-c.false x.c-is x.side-is) c.requires.1 f w.if-b-w.true w.keep.ensures) w.next-is w.c-is w.side-is ]) | else-b-w w ↦ spreads-same u w.next-is w.c-is w.side-is ]

pub returns : goal.returns
returns c = record { by_index = c.loop-i.invariant.follows.among; fact = λ f. found-not {r = true} refl f }
