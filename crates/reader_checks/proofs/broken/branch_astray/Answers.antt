use mathlib.Core.Path.{sym, ap}
use mathlib.Core.Bool.{not}
use borrow.Author.Tests.{lt-ltb, le-ltb}
use Rattle.loops.proofs.Loops.{left-start, left-pass, left-fail, left_end}
use Rattle.reader_checks.proofs.broken.branch_astray.Goals as goal

pub loop-i-init : goal.loop-i-init
loop-i-init c = left-start

pub returns-then-n-hubs : goal.returns-then-n-hubs
returns-then-n-hubs c = sym (ap not (left-fail c.loop-i.invariant c.loop-i-test.true (le-ltb _ _ c.if-n-hubs.true)))

pub loop-i-preserved : goal.loop-i-preserved
loop-i-preserved c = left-pass c.loop-i.invariant c.loop-i-test.true (lt-ltb _ _ c.if-n-hubs.false)

pub returns : goal.returns
returns c = sym (ap not (left_end c.loop-i.invariant c.loop-i-test.false))
