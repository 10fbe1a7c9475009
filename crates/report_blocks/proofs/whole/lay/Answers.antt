use mathlib.Core.Path.{refl, ◌∙◌}
use native.Mathlib.Omega.{arith}
use Rattle.report_blocks.proofs.Laying.{between_start, between-line, between-over, whole-laid}
use Rattle.report_blocks.proofs.whole.lay.Goals as goal

pub loop-from-init : goal.loop-from-init
loop-from-init c = (between_start _ _, refl)

pub line_end-end-requires : goal.line_end-end-requires
line_end-end-requires c = c.loop-from-test.true

pub slice_bounds-report_line-count : goal.slice_bounds-report_line-count
slice_bounds-report_line-count c = omega (arith, c.line_end-end.ensures.forth)

pub slice_bounds-report_line-start : goal.slice_bounds-report_line-start
slice_bounds-report_line-start c = omega (arith, c.line_end-end.ensures.forth, c.line_end-end.ensures.within)

pub slice_bounds-report_line-end : goal.slice_bounds-report_line-end
slice_bounds-report_line-end c = omega (arith, c.line_end-end.ensures.forth, c.line_end-end.ensures.within)

pub loop-from-smaller : goal.loop-from-smaller
loop-from-smaller c = omega (arith, c.line_end-end.ensures.forth, c.loop-from-test.true)

pub loop-from-preserved : goal.loop-from-preserved
loop-from-preserved c = (between-line c.loop-from.invariant.0 c.line_end-end.ensures c.report_line-r.ensures c.count-tally.ensures, c.report_line-r.auto.out ∙ c.loop-from.invariant.1)

pub shape_of-out : goal.shape_of-out
shape_of-out c = c.totals.auto.out ∙ c.loop-from.invariant.1 ∙ c.header-at.auto.out

pub returns : goal.returns
returns c = whole-laid _ c.header-at.ensures (between-over c.loop-from.invariant.0 c.loop-from-test.false c.totals.ensures)
