use native.Mathlib.Omega.{arith}
use mathlib.Core.Path.{sym, ap}
use mathlib.Core.Bool.{not}
use Rattle.loops.proofs.Loops.{left-start, left-pass, left-fail, left_end}
use Rattle.same_finer.proofs.Low.{row_low, column-low}
use Rattle.same_search.proofs.agree.Goals as goal

pub loop-i-init : goal.loop-i-init
loop-i-init c = left-start

pub offset_bounds-k1-i : goal.offset_bounds-k1-i
offset_bounds-k1-i c = omega (arith, c.loop-i-test.true, column-low c.loop-i.i, row_low c.loop-i.i c.args.n c.requires c.loop-i-test.true)

pub bounds-k1-i : goal.bounds-k1-i
bounds-k1-i c = omega (arith, c.loop-i-test.true, column-low c.loop-i.i, row_low c.loop-i.i c.args.n c.requires c.loop-i-test.true)

pub offset_bounds-k2-i : goal.offset_bounds-k2-i
offset_bounds-k2-i c = omega (arith, c.loop-i-test.true, column-low c.loop-i.i, row_low c.loop-i.i c.args.n c.requires c.loop-i-test.true)

pub bounds-k2-i : goal.bounds-k2-i
bounds-k2-i c = omega (arith, c.loop-i-test.true, column-low c.loop-i.i, row_low c.loop-i.i c.args.n c.requires c.loop-i-test.true)

pub returns-then-ok-i : goal.returns-then-ok-i
returns-then-ok-i c = sym (left-fail c.loop-i.invariant c.loop-i-test.true (ap not c.if-ok-i.true))

pub loop-i-preserved : goal.loop-i-preserved
loop-i-preserved c = left-pass c.loop-i.invariant c.loop-i-test.true (ap not c.if-ok-i.false)

pub returns : goal.returns
returns c = sym (left_end c.loop-i.invariant c.loop-i-test.false)
