use mathlib.Core.Path.{sym, ◌∙◌}
use borrow.Author.Tests.{not-true, not-false}
use Rattle.loops.proofs.Loops.{left-pass, left-fail, left_end}
use Rattle.redrawing_check.proofs.Checking.{ends-told}
use Rattle.redrawing_check.proofs.same_bonds.Goals as goal

pub returns-then-not-joins : goal.returns-then-not-joins
returns-then-not-joins c = sym (left-fail c.loop-k.invariant c.loop-k-test.true
    (sym (ends-told c.args.bonds1.now _ c.args.t.now c.args.u.now _ c.bond_number.ensures c.image-first.ensures c.bond_number-in-loop-k.ensures c.image-second.ensures c.image.ensures c.joins.ensures) ∙ not-true _ c.if-not-joins.true-raw))

pub loop-k-preserved : goal.loop-k-preserved
loop-k-preserved c = left-pass c.loop-k.invariant c.loop-k-test.true
    (sym (ends-told c.args.bonds1.now _ c.args.t.now c.args.u.now _ c.bond_number.ensures c.image-first.ensures c.bond_number-in-loop-k.ensures c.image-second.ensures c.image.ensures c.joins.ensures) ∙ not-false _ c.if-not-joins.false-raw)

pub returns : goal.returns
returns c = sym (left_end c.loop-k.invariant c.loop-k-test.false)
