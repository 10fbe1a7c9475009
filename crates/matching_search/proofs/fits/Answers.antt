use native.Mathlib.Omega.{arith}
use Rattle.matching_search.proofs.Flags.{not-true}
use Rattle.matching_search.proofs.Fitting.{fitting-start, fitting-end, fitting-ends, fitting-elided, fitting-zero, fitting-one, fitting-other, fitting-not}
use Rattle.matching_search.proofs.fits.Goals.{then-x-ne0+else-x-ne1+else-not-choosable, else-x-ne0}
use Rattle.matching_search.proofs.fits.Goals as goal

pub loop-i-init : goal.loop-i-init
loop-i-init c = fitting-start c.requires

pub bounds-row-i : goal.bounds-row-i
bounds-row-i c = omega (arith, c.loop-i.invariant.shape.room, c.loop-i-test.true)

pub shape_of-need-then-x-ne1 : goal.shape_of-need-then-x-ne1
shape_of-need-then-x-ne1 c = c.loop-i.invariant.long

pub returns-then-x-ne1 : goal.returns-then-x-ne1
returns-then-x-ne1 c = fitting-other c.loop-i.invariant c.loop-i-test.true c.if-x-ne0.true c.if-x-ne1.true

pub choosable-requires : goal.choosable-requires
choosable-requires c = record { ends = fitting-ends c.loop-i.invariant c.loop-i-test.true; k_in_bounds = fitting-elided c.loop-i.invariant c.loop-i-test.true }

pub shape_of-need-then-not-choosable : goal.shape_of-need-then-not-choosable
shape_of-need-then-not-choosable c = c.loop-i.invariant.long

pub returns-then-not-choosable : goal.returns-then-not-choosable
returns-then-not-choosable c = fitting-not c.loop-i.invariant c.loop-i-test.true c.choosable.ensures c.if-x-ne1.false (not-true c.choosable.result c.if-not-choosable.true-raw)

pub mark-requires : goal.mark-requires
mark-requires c = fitting-ends c.loop-i.invariant c.loop-i-test.true

pub loop-i-preserved : goal.loop-i-preserved
loop-i-preserved c = elim c.if-x-ne0.branch [
  | then-x-ne0+else-x-ne1+else-not-choosable w ↦ fitting-one c.loop-i.invariant c.loop-i-test.true w.choosable.ensures w.if-x-ne1.false w.if-not-choosable.false w.mark.ensures w.mark.auto.need w.need-is
  | else-x-ne0 w ↦ fitting-zero c.loop-i.invariant c.loop-i-test.true w.if-x-ne0.false w.need-is
]

pub shape_of-need : goal.shape_of-need
shape_of-need c = c.loop-i.invariant.long

pub returns : goal.returns
returns c = fitting-end c.loop-i.invariant c.loop-i-test.false c.all_paired.ensures
