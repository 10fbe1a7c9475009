use mathlib.Core.Path.{sym}
use borrow.Author.Tests.{eq-eqb, ne_eqb}
use Rattle.loops.proofs.Loops.{left-start, left-pass, left-fail, left_end}
use Rattle.kekule.specs.Kekule.{all_zero}
use Rattle.kekule.proofs.all_zero.Goals as goal

pub loop-i-init : goal.loop-i-init
loop-i-init c = left-start

pub returns-then-row-i-ne0 : goal.returns-then-row-i-ne0
unfolding all_zero
returns-then-row-i-ne0 c = sym (left-fail c.loop-i.invariant c.loop-i-test.true (ne_eqb _ 0 c.if-row-i-ne0.true))

pub loop-i-preserved : goal.loop-i-preserved
loop-i-preserved c = left-pass c.loop-i.invariant c.loop-i-test.true (eq-eqb _ 0 c.if-row-i-ne0.false)

pub returns : goal.returns
unfolding all_zero
returns c = sym (left_end c.loop-i.invariant c.loop-i-test.false)
