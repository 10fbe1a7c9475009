use native.Mathlib.Omega.{arith}
use Rattle.loops.proofs.Loops.{left-start, left-pass}
use Rattle.same_place.proofs.Looking.{place_out, place-all, place-taken, place-differs, beside-fine}
use Rattle.same_place.proofs.placeable.Goals as goal

pub returns-then-ok-a-ne1 : goal.returns-then-ok-a-ne1
returns-then-ok-a-ne1 c = place_out _ _ _ _ _ _ c.if-ok-a-ne1.true

pub loop-b-init : goal.loop-b-init
loop-b-init c = left-start

pub overflow_cast-image : goal.overflow_cast-image
overflow_cast-image c = omega (arith, c.requires.by_index c.loop-b.b c.loop-b-test.true)

pub returns-then-image-d : goal.returns-then-image-d
returns-then-image-d c = place-taken _ _ _ _ _ _ c.loop-b.invariant c.loop-b-test.true c.if-image-d.true

pub entry-requires : goal.entry-requires
entry-requires c = (c.requires.a_lt_max_same.0, omega (arith, c.requires.a_lt_max_same.0, c.loop-b-test.true))

pub entry-requires-in-loop-b : goal.entry-requires-in-loop-b
entry-requires-in-loop-b c = (c.requires.a_lt_max_same.1, c.requires.by_index c.loop-b.b c.loop-b-test.true)

pub returns-then-entry : goal.returns-then-entry
returns-then-entry c = place-differs _ _ _ _ _ _ c.loop-b.invariant c.loop-b-test.true c.entry.ensures c.entry-in-loop-b.ensures c.if-entry.true

pub loop-b-preserved : goal.loop-b-preserved
loop-b-preserved c = let g = c.args in
    left-pass c.loop-b.invariant c.loop-b-test.true (beside-fine g.o1.now g.o2.now g.ren.now g.a g.d c.loop-b.b c.if-image-d.false c.entry.ensures c.entry-in-loop-b.ensures c.if-entry.false)

pub returns : goal.returns
returns c = place-all _ _ _ _ _ _ c.if-ok-a-ne1.false c.loop-b.invariant c.loop-b-test.false
