use mathlib.Core.Path.{refl, ◌∙◌}
use native.Mathlib.Omega.{arith}
use borrow.Author.Tests.{not-true, not-false}
use Rattle.report_lines.proofs.Cut.{line-reached}
use Rattle.report_blocks.proofs.Turn.{going_start, going-line, going-over, going-full}
use Rattle.report_blocks.proofs.report_block.Goals as goal

pub loop-used-init : goal.loop-used-init
loop-used-init c = (going_start _ _ _ _ c.requires, refl)

pub fill-f-requires : goal.fill-f-requires
fill-f-requires c = c.loop-used.invariant.0.bounded

pub shape_of-out-then-not-f : goal.shape_of-out-then-not-f
shape_of-out-then-not-f c = c.loop-used.invariant.1

pub returns-then-not-f : goal.returns-then-not-f
returns-then-not-f c = going-over c.loop-used.invariant.0 c.fill-f.ensures (not-true _ c.if-not-f.true)

pub tell-r-requires : goal.tell-r-requires
tell-r-requires c = c.fill-f.ensures.bounded

pub loop-used-smaller : goal.loop-used-smaller
loop-used-smaller c = omega (arith, (line-reached _ _ _ _ c.fill-f.ensures (not-false _ c.if-not-f.false)).0, (line-reached _ _ _ _ c.fill-f.ensures (not-false _ c.if-not-f.false)).1)

pub loop-used-preserved : goal.loop-used-preserved
loop-used-preserved c = (going-line c.loop-used.invariant.0 c.fill-f.ensures (not-false _ c.if-not-f.false) c.loop-used-test.true c.tell-r.ensures c.count-tally.ensures, c.tell-r.auto.out ∙ c.loop-used.invariant.1)

pub shape_of-out : goal.shape_of-out
shape_of-out c = c.loop-used.invariant.1

pub returns : goal.returns
returns c = going-full c.loop-used.invariant.0 c.loop-used-test.false
