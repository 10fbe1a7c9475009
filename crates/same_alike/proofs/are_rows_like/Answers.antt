use mathlib.Core.Path.{sym, ◌∙◌}
use borrow.Author.Tests.{not-true, not-false}
use Rattle.loops.proofs.Loops.{left-start, left-pass, left-fail, left_end}
use Rattle.same_alike.proofs.are_rows_like.Goals as goal

pub loop-a-init : goal.loop-a-init
loop-a-init c = left-start

pub is_row_like-requires : goal.is_row_like-requires
is_row_like-requires c = (c.requires.0, c.loop-a-test.true, c.requires.1)

pub returns-then-not-is_row_like : goal.returns-then-not-is_row_like
returns-then-not-is_row_like c = sym (left-fail c.loop-a.invariant c.loop-a-test.true (sym c.is_row_like.ensures ∙ not-true _ c.if-not-is_row_like.true-raw))

pub loop-a-preserved : goal.loop-a-preserved
loop-a-preserved c = left-pass c.loop-a.invariant c.loop-a-test.true (sym c.is_row_like.ensures ∙ not-false _ c.if-not-is_row_like.false-raw)

pub returns : goal.returns
returns c = sym (left_end c.loop-a.invariant c.loop-a-test.false)
