use native.Mathlib.Omega.{arith}
use lib.ListN.{get_or}
use mathlib.Core.Path.{sym}
use borrow.Author.Tests.{lt-ltb, le-ltb}
use Rattle.loops.proofs.Loops.{left-start, left-pass, left-fail, left_end}
use Rattle.same_open.proofs.are_inside.Goals as goal

pub loop-a-init : goal.loop-a-init
loop-a-init c = left-start

pub returns-then-list-a : goal.returns-then-list-a
returns-then-list-a c = sym (left-fail c.loop-a.invariant c.loop-a-test.true (le-ltb (get_or c.args.list.now c.loop-a.a 0) c.args.n (omega (arith, c.if-list-a.true))))

pub loop-a-preserved : goal.loop-a-preserved
loop-a-preserved c = left-pass c.loop-a.invariant c.loop-a-test.true (lt-ltb (get_or c.args.list.now c.loop-a.a 0) c.args.n (omega (arith, c.if-list-a.false)))

pub returns : goal.returns
returns c = sym (left_end c.loop-a.invariant c.loop-a-test.false)
