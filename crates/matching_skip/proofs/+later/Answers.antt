use mathlib.Core.Path.{refl, sym, ◌∙◌}
use native.Mathlib.Omega.{arith}
use lib.ListN.{length-set}
use Rattle.matching_search.proofs.Choice.{ends-here, shape-next}
use Rattle.matching_search.proofs.Check.{matching-rest, matching-zero, matching-0or1}
use Rattle.matching_skip.proofs.Laws.{in-front, next_low, later-stops, later-found, later-then, skipped}
use Rattle.matching_skip.proofs.+later.Goals as goal

pub blank-requires : goal.blank-requires
blank-requires t c = (c.requires.shape.upto, c.requires.shape.room)

pub returns-then-at-to : goal.returns-then-at-to
returns-then-at-to t c = later-stops c.requires.shape c.if-at-to.true c.blank.ensures

pub mark-requires : goal.mark-requires
mark-requires t c = ends-here c.requires.shape (in-front c.requires.k_value.1 c.requires.k_value.2 c.if-at-to.false) refl

pub later-found-requires : goal.later-found-requires
later-found-requires t c = (omega (arith, c.requires.k_value.1, c.if-at-to.false), (shape-next c.requires.shape (in-front c.requires.k_value.1 c.requires.k_value.2 c.if-at-to.false) c.mark.auto.need refl, (matching-rest c.requires.shape (in-front c.requires.k_value.1 c.requires.k_value.2 c.if-at-to.false) c.if-row-at-eq1.true c.requires.k_value.0 c.mark.ensures, next_low c.requires.k_value.1 c.if-at-to.false, c.requires.k_value.2)))

pub mark-requires-then-row-at-eq1 : goal.mark-requires-then-row-at-eq1
mark-requires-then-row-at-eq1 t c = ends-here c.requires.shape (in-front c.requires.k_value.1 c.requires.k_value.2 c.if-at-to.false) (c.later-found.auto.need ∙ c.mark.auto.need)

pub returns-then-found : goal.returns-then-found
returns-then-found t c = later-found c.requires.shape c.requires.k_value.1 c.requires.k_value.2 c.if-at-to.false c.if-row-at-eq1.true c.requires.k_value.0 c.mark.ensures c.later-found.ensures c.mark-then-row-at-eq1.ensures c.if-found.true

pub seek_from-requires : goal.seek_from-requires
seek_from-requires t c = shape-next c.requires.shape (in-front c.requires.k_value.1 c.requires.k_value.2 c.if-at-to.false) (c.mark-then-row-at-eq1.auto.need ∙ c.later-found.auto.need ∙ c.mark.auto.need) (simp length-set c.later-found.auto.row)

pub shape_of-row-then-row-at-eq1 : goal.shape_of-row-then-row-at-eq1
shape_of-row-then-row-at-eq1 t c = c.seek_from.auto.row ∙ simp length-set c.later-found.auto.row

pub returns-then-row-at-eq1 : goal.returns-then-row-at-eq1
returns-then-row-at-eq1 t c = later-then c.requires.shape c.requires.k_value.1 c.requires.k_value.2 c.if-at-to.false c.if-row-at-eq1.true c.requires.k_value.0 c.mark.ensures c.later-found.ensures c.mark-then-row-at-eq1.ensures c.if-found.false c.later-found.auto.row c.seek_from.ensures

pub later-requires : goal.later-requires
later-requires t c = (omega (arith, c.requires.k_value.1, c.if-at-to.false), (shape-next c.requires.shape (in-front c.requires.k_value.1 c.requires.k_value.2 c.if-at-to.false) refl refl, (sym (matching-zero c.requires.shape (in-front c.requires.k_value.1 c.requires.k_value.2 c.if-at-to.false) (matching-0or1 c.requires.shape (in-front c.requires.k_value.1 c.requires.k_value.2 c.if-at-to.false) c.requires.k_value.0 c.if-row-at-eq1.false)) ∙ c.requires.k_value.0, next_low c.requires.k_value.1 c.if-at-to.false, c.requires.k_value.2)))

pub returns : goal.returns
returns t c = skipped c.requires.shape c.requires.k_value.1 c.requires.k_value.2 c.if-at-to.false (matching-0or1 c.requires.shape (in-front c.requires.k_value.1 c.requires.k_value.2 c.if-at-to.false) c.requires.k_value.0 c.if-row-at-eq1.false) c.later.ensures
