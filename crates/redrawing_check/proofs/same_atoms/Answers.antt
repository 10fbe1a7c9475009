use mathlib.Core.Path.{sym, ◌∙◌}
use borrow.Author.Tests.{not-true, not-false}
use Rattle.loops.proofs.Loops.{left-pass, left-fail, left_end}
use Rattle.redrawing_check.proofs.Checking.{cells_told}
use Rattle.redrawing_check.proofs.same_atoms.Goals as goal

pub returns-then-not-same_cells : goal.returns-then-not-same_cells
returns-then-not-same_cells c = sym (left-fail c.loop-a.invariant c.loop-a-test.true (sym (cells_told _ _ c.args.t.now _ c.image.ensures c.same_cells.ensures) ∙ not-true _ c.if-not-same_cells.true-raw))

pub loop-a-preserved : goal.loop-a-preserved
loop-a-preserved c = left-pass c.loop-a.invariant c.loop-a-test.true (sym (cells_told _ _ c.args.t.now _ c.image.ensures c.same_cells.ensures) ∙ not-false _ c.if-not-same_cells.false-raw)

pub returns : goal.returns
returns c = sym (left_end c.loop-a.invariant c.loop-a-test.false)
