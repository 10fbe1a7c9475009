use native.Mathlib.Omega.{arith}
use mathlib.Core.Path.{sym}
use borrow.Author.Tests.{eq-eqb, ne_eqb}
use Rattle.loops.proofs.Loops.{left-start, left-pass, left-fail, left_end}
use Rattle.same_alike.proofs.are_fixed.Goals as goal

pub loop-b-init : goal.loop-b-init
loop-b-init c = left-start

pub overflow_cast-image : goal.overflow_cast-image
overflow_cast-image c = omega (arith, c.requires.1 c.loop-b.b c.loop-b-test.true)

pub bounds-tau-image : goal.bounds-tau-image
bounds-tau-image c = omega (arith, c.requires.1 c.loop-b.b c.loop-b-test.true)

pub returns-then-tau-image : goal.returns-then-tau-image
returns-then-tau-image c = sym (left-fail c.loop-b.invariant c.loop-b-test.true (ne_eqb _ _ c.if-tau-image.true))

pub loop-b-preserved : goal.loop-b-preserved
loop-b-preserved c = left-pass c.loop-b.invariant c.loop-b-test.true (eq-eqb _ _ c.if-tau-image.false)

pub returns : goal.returns
returns c = sym (left_end c.loop-b.invariant c.loop-b-test.false)
