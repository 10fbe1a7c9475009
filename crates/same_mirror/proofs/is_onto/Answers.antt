use mathlib.Core.Path.{sym, ◌∙◌}
use borrow.Author.Tests.{not-false, ltb-true}
use native.Mathlib.Omega.{arith}
use Rattle.same_mirror.proofs.Checking.{all_start, all-step, all_end, refused, own-onto}
use Rattle.loops.proofs.Loops.{each_at}
use Rattle.same_open.specs.Open.{is_inside}
use Rattle.same_mirror.proofs.is_onto.Goals as goal

pub loop-d-init : goal.loop-d-init
loop-d-init c = all_start

pub is_own-requires : goal.is_own-requires
is_own-requires c = omega (arith, c.requires, c.loop-d-test.true)

pub returns-then-not-is_own : goal.returns-then-not-is_own
returns-then-not-is_own c = refused

pub loop-d-preserved : goal.loop-d-preserved
loop-d-preserved c = all-step c.loop-d.invariant c.loop-d-test.true (c.is_own.ensures (not-false c.is_own.result c.if-not-is_own.false-raw))

pub are_inside-requires : goal.are_inside-requires
are_inside-requires c = c.requires

pub returns : goal.returns
returns c = λ h. own-onto (all_end c.loop-d.invariant c.loop-d-test.false) (λ e i. ltb-true _ _ (each_at (is_inside c.args.like.now c.args.n) c.args.n e (sym c.are_inside.ensures ∙ h) i))
