use mathlib.Core.Path.{sym}
use Rattle.loops.proofs.Loops.{left-pass, left-fail, left_end}
use Rattle.redrawing_check.proofs.Checking.{number-kept, number-lost}
use Rattle.redrawing_check.proofs.same_numbers.Goals as goal

pub returns-then-numbers1-a : goal.returns-then-numbers1-a
returns-then-numbers1-a c = sym (left-fail c.loop-a.invariant c.loop-a-test.true (number-lost c.args.numbers1.now c.args.numbers2.now c.args.t.now _ c.image-b.ensures c.if-numbers1-a.true))

pub loop-a-preserved : goal.loop-a-preserved
loop-a-preserved c = left-pass c.loop-a.invariant c.loop-a-test.true (number-kept c.args.numbers1.now c.args.numbers2.now c.args.t.now _ c.image-b.ensures c.if-numbers1-a.false)

pub returns : goal.returns
returns c = sym (left_end c.loop-a.invariant c.loop-a-test.false)
