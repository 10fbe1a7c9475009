use mathlib.Core.Path.{◌∙◌, refl}
use native.Mathlib.Omega.{arith}
use lib.ListN.{length-set}
use Rattle.matching_certified.proofs.Reason.{tables, given-up}
use Rattle.matching_certified.proofs.Along.{inside, along-start, along-step, along-end}
use Rattle.matching_search.proofs.Choice.{here3, in_row, ends-here, shape-next, found-one, then-zero, not_free}
use Rattle.matching_certified.proofs.+seek_from.Goals.{then-choosable+else-hopeless+else-found, else-choosable}
use Rattle.matching_certified.proofs.+seek_from.Goals as goal

pub loop-at-init : goal.loop-at-init
loop-at-init t c = along-start c.requires

pub choosable-requires : goal.choosable-requires
choosable-requires t c = record { ends = ends-here c.loop-at.invariant.shape (inside c.loop-at-test.true) refl; k_in_bounds = here3 c.loop-at.invariant.shape (inside c.loop-at-test.true) }

pub hopeless-requires : goal.hopeless-requires
hopeless-requires t c = tables c.loop-at.invariant.shape

pub blank-requires : goal.blank-requires
blank-requires t c = (c.loop-at.invariant.shape.upto, c.loop-at.invariant.shape.room)

pub shape_of-need-then-hopeless : goal.shape_of-need-then-hopeless
shape_of-need-then-hopeless t c = c.loop-at.invariant.flags

pub shape_of-row-then-hopeless : goal.shape_of-row-then-hopeless
shape_of-row-then-hopeless t c = c.blank.auto.row ∙ c.loop-at.invariant.long

pub returns-then-hopeless : goal.returns-then-hopeless
returns-then-hopeless t c = c.loop-at.invariant.rest (given-up c.loop-at.invariant.shape (c.hopeless.ensures c.if-hopeless.true) c.blank.ensures)

pub mark-requires : goal.mark-requires
mark-requires t c = ends-here c.loop-at.invariant.shape (inside c.loop-at-test.true) refl

pub bounds-row-at : goal.bounds-row-at
bounds-row-at t c = in_row c.loop-at.invariant.shape (inside c.loop-at-test.true)

pub seek_from-found-requires : goal.seek_from-found-requires
seek_from-found-requires t c = (omega (arith, c.loop-at.invariant.begun, c.loop-at-test.true), shape-next c.loop-at.invariant.shape (inside c.loop-at-test.true) c.mark.auto.need (length-set c.loop-at.row c.loop-at.at 1))

pub mark-requires-then-choosable : goal.mark-requires-then-choosable
mark-requires-then-choosable t c = ends-here c.loop-at.invariant.shape (inside c.loop-at-test.true) (c.seek_from-found.auto.need ∙ c.mark.auto.need)

pub shape_of-need-then-found : goal.shape_of-need-then-found
shape_of-need-then-found t c = c.mark-then-choosable.auto.need ∙ c.seek_from-found.auto.need ∙ c.mark.auto.need ∙ c.loop-at.invariant.flags

pub shape_of-row-then-found : goal.shape_of-row-then-found
shape_of-row-then-found t c = c.seek_from-found.auto.row ∙ length-set c.loop-at.row c.loop-at.at 1 ∙ c.loop-at.invariant.long

pub returns-then-found : goal.returns-then-found
returns-then-found t c = c.loop-at.invariant.rest (found-one c.loop-at.invariant.shape (inside c.loop-at-test.true) c.choosable.ensures c.if-choosable.true c.mark.ensures c.seek_from-found.ensures c.mark-then-choosable.ensures c.if-found.true)

pub bounds-row-at-in-loop-at : goal.bounds-row-at-in-loop-at
bounds-row-at-in-loop-at t c = elim c.if-choosable.branch [
  | then-choosable+else-hopeless+else-found w ↦ rw (w.row-is, w.seek_from-found.auto.row, length-set c.loop-at.row c.loop-at.at 1) (in_row c.loop-at.invariant.shape (inside c.loop-at-test.true))
  | else-choosable w ↦ rw w.row-is (in_row c.loop-at.invariant.shape (inside c.loop-at-test.true))
]

pub loop-at-preserved : goal.loop-at-preserved
loop-at-preserved t c = elim c.if-choosable.branch [
  | then-choosable+else-hopeless+else-found w ↦ rw (w.need-is, w.row-is) (along-step c.loop-at.invariant c.loop-at-test.true w.seek_from-found.new.row (w.mark-then-choosable.auto.need ∙ w.seek_from-found.auto.need ∙ w.mark.auto.need) (w.seek_from-found.auto.row ∙ length-set c.loop-at.row c.loop-at.at 1)
      (λ q n r d. then-zero c.loop-at.invariant.shape (inside c.loop-at-test.true) c.choosable.ensures w.if-choosable.true w.mark.ensures w.seek_from-found.ensures w.mark-then-choosable.ensures w.if-found.false (w.seek_from-found.auto.row ∙ length-set c.loop-at.row c.loop-at.at 1) d))
  | else-choosable w ↦ rw (w.need-is, w.row-is) (along-step c.loop-at.invariant c.loop-at-test.true c.loop-at.row refl refl (λ q n r d. not_free c.loop-at.invariant.shape (inside c.loop-at-test.true) c.choosable.ensures w.if-choosable.false d))
]

pub shape_of-need : goal.shape_of-need
shape_of-need t c = c.loop-at.invariant.flags

pub shape_of-row : goal.shape_of-row
shape_of-row t c = c.loop-at.invariant.long

pub returns : goal.returns
returns t c = along-end c.loop-at.invariant c.loop-at-test.false c.all_paired.ensures
