use native.Mathlib.Omega.{arith}
use mathlib.Core.Path.{sym}
use borrow.Author.Tests.{eq-eqb, ne_eqb}
use Rattle.loops.proofs.Loops.{left-start, left-pass, left-fail, left_end}
use Rattle.same_finer.proofs.Low.{row_low, column-low}
use Rattle.same_finer.proofs.is_mirrored.Goals as goal

pub loop-i-init : goal.loop-i-init
loop-i-init c = left-start

pub overflow_mul-i : goal.overflow_mul-i
overflow_mul-i c = omega (arith, c.loop-i-test.true, column-low c.loop-i.i, row_low c.loop-i.i c.args.n c.requires c.loop-i-test.true)

pub offset_bounds-w-i-in-loop-i : goal.offset_bounds-w-i-in-loop-i
offset_bounds-w-i-in-loop-i c = omega (arith, c.loop-i-test.true, column-low c.loop-i.i, row_low c.loop-i.i c.args.n c.requires c.loop-i-test.true)

pub bounds-w-i-in-loop-i : goal.bounds-w-i-in-loop-i
bounds-w-i-in-loop-i c = omega (arith, c.loop-i-test.true, column-low c.loop-i.i, row_low c.loop-i.i c.args.n c.requires c.loop-i-test.true)

pub returns-then-w-i : goal.returns-then-w-i
returns-then-w-i c = sym (left-fail c.loop-i.invariant c.loop-i-test.true (ne_eqb _ _ c.if-w-i.true))

pub loop-i-preserved : goal.loop-i-preserved
loop-i-preserved c = left-pass c.loop-i.invariant c.loop-i-test.true (eq-eqb _ _ c.if-w-i.false)

pub returns : goal.returns
returns c = sym (left_end c.loop-i.invariant c.loop-i-test.false)
