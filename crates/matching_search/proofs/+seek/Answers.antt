use mathlib.Core.Path.{◌∙◌, refl}
use native.Mathlib.Omega.{arith}
use lib.ListN.{length-set}
use Rattle.matching_search.proofs.Choice.{at-end, here3, in_row, ends-here, shape-next, found-one, then-zero, not_free}
use Rattle.matching_search.proofs.+seek.Goals as goal

pub returns-then-at-links : goal.returns-then-at-links
returns-then-at-links t c = at-end c.requires c.if-at-links.true c.all_paired.ensures

pub choosable-requires : goal.choosable-requires
choosable-requires t c = record { ends = ends-here c.requires c.if-at-links.false refl; k_in_bounds = here3 c.requires c.if-at-links.false }

pub mark-requires : goal.mark-requires
mark-requires t c = ends-here c.requires c.if-at-links.false refl

pub bounds-row-at : goal.bounds-row-at
bounds-row-at t c = in_row c.requires c.if-at-links.false

pub seek-found-requires : goal.seek-found-requires
seek-found-requires t c = (omega (arith, c.requires.upto, c.if-at-links.false), shape-next c.requires c.if-at-links.false c.mark.auto.need (length-set c.args.row.now c.args.k.0 1))

pub mark-requires-then-choosable : goal.mark-requires-then-choosable
mark-requires-then-choosable t c = ends-here c.requires c.if-at-links.false (c.seek-found.auto.need ∙ c.mark.auto.need)

pub shape_of-need-then-found : goal.shape_of-need-then-found
shape_of-need-then-found t c = c.mark-then-choosable.auto.need ∙ c.seek-found.auto.need ∙ c.mark.auto.need

pub shape_of-row-then-found : goal.shape_of-row-then-found
shape_of-row-then-found t c = c.seek-found.auto.row ∙ length-set c.args.row.now c.args.k.0 1

pub returns-then-found : goal.returns-then-found
returns-then-found t c = found-one c.requires c.if-at-links.false c.choosable.ensures c.if-choosable.true c.mark.ensures c.seek-found.ensures c.mark-then-choosable.ensures c.if-found.true

pub bounds-row-at-then-choosable : goal.bounds-row-at-then-choosable
bounds-row-at-then-choosable t c = omega (arith, in_row c.requires c.if-at-links.false, c.seek-found.auto.row ∙ length-set c.args.row.now c.args.k.0 1)

pub seek-requires : goal.seek-requires
seek-requires t c = (
  omega (arith, c.requires.upto, c.if-at-links.false),
  shape-next c.requires c.if-at-links.false
      (c.mark-then-choosable.auto.need ∙ c.seek-found.auto.need ∙ c.mark.auto.need)
      (simp length-set (c.seek-found.auto.row ∙ length-set c.args.row.now c.args.k.0 1)),
)

pub shape_of-row-then-choosable : goal.shape_of-row-then-choosable
shape_of-row-then-choosable t c = c.seek.auto.row ∙ simp length-set (c.seek-found.auto.row ∙ length-set c.args.row.now c.args.k.0 1)

pub returns-then-choosable : goal.returns-then-choosable
returns-then-choosable t c = then-zero c.requires c.if-at-links.false c.choosable.ensures c.if-choosable.true c.mark.ensures c.seek-found.ensures c.mark-then-choosable.ensures c.if-found.false
    (c.seek-found.auto.row ∙ length-set c.args.row.now c.args.k.0 1) c.seek.ensures

pub bounds-row-at-2 : goal.bounds-row-at-2
bounds-row-at-2 t c = in_row c.requires c.if-at-links.false

pub seek-requires-2 : goal.seek-requires-2
seek-requires-2 t c = (omega (arith, c.requires.upto, c.if-at-links.false), shape-next c.requires c.if-at-links.false refl (length-set c.args.row.now c.args.k.0 0))

pub shape_of-row : goal.shape_of-row
shape_of-row t c = c.seek-2.auto.row ∙ length-set c.args.row.now c.args.k.0 0

pub returns : goal.returns
returns t c = not_free c.requires c.if-at-links.false c.choosable.ensures c.if-choosable.false c.seek-2.ensures
