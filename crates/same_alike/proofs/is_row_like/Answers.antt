use native.Mathlib.Omega.{arith}
use mathlib.Core.Path.{sym, ◌∙◌}
use borrow.Author.Tests.{not-true, not-false}
use Rattle.loops.proofs.Loops.{left-start, left-pass, left-fail, left_end}
use Rattle.same_alike.proofs.is_row_like.Goals as goal

pub loop-b-init : goal.loop-b-init
loop-b-init c = left-start

pub is_pair_like-requires : goal.is_pair_like-requires
is_pair_like-requires c = (omega (arith, c.requires.0, c.requires.1), omega (arith, c.requires.0, c.loop-b-test.true), omega (arith, c.requires.0, c.requires.2 c.args.a c.requires.1), omega (arith, c.requires.0, c.requires.2 c.loop-b.b c.loop-b-test.true))

pub returns-then-not-is_pair_like : goal.returns-then-not-is_pair_like
returns-then-not-is_pair_like c = sym (left-fail c.loop-b.invariant c.loop-b-test.true (sym c.is_pair_like.ensures ∙ not-true _ c.if-not-is_pair_like.true-raw))

pub loop-b-preserved : goal.loop-b-preserved
loop-b-preserved c = left-pass c.loop-b.invariant c.loop-b-test.true (sym c.is_pair_like.ensures ∙ not-false _ c.if-not-is_pair_like.false-raw)

pub returns : goal.returns
returns c = sym (left_end c.loop-b.invariant c.loop-b-test.false)
