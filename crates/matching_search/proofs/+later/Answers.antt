use mathlib.Core.Path.{refl, sym, ◌∙◌}
use native.Mathlib.Omega.{arith}
use lib.ListN.{length-set}
use Rattle.matching_search.proofs.Choice.{ends-here, shape-next}
use Rattle.matching_search.proofs.Check.{matching-rest, matching-zero, matching-0or1}
use Rattle.matching_search.proofs.After.{later-end, later-found, later-then, skipped}
use Rattle.matching_search.proofs.+later.Goals as goal

pub returns-then-at-links : goal.returns-then-at-links
returns-then-at-links t c = later-end c.requires.shape c.if-at-links.true

pub mark-requires : goal.mark-requires
mark-requires t c = ends-here c.requires.shape c.if-at-links.false refl

pub later-found-requires : goal.later-found-requires
later-found-requires t c = (omega (arith, c.requires.shape, c.requires.shape.upto, c.if-at-links.false), (shape-next c.requires.shape c.if-at-links.false c.mark.auto.need refl, matching-rest c.requires.shape c.if-at-links.false c.if-row-at-eq1.true c.requires.k_value c.mark.ensures))

pub mark-requires-then-row-at-eq1 : goal.mark-requires-then-row-at-eq1
mark-requires-then-row-at-eq1 t c = ends-here c.requires.shape c.if-at-links.false (c.later-found.auto.need ∙ c.mark.auto.need)

pub returns-then-found : goal.returns-then-found
returns-then-found t c = later-found c.requires.shape c.if-at-links.false c.if-row-at-eq1.true c.requires.k_value c.mark.ensures c.later-found.ensures c.mark-then-row-at-eq1.ensures c.if-found.true

pub seek-requires : goal.seek-requires
seek-requires t c = shape-next c.requires.shape c.if-at-links.false
    (c.mark-then-row-at-eq1.auto.need ∙ c.later-found.auto.need ∙ c.mark.auto.need) (simp length-set c.later-found.auto.row)

pub shape_of-row-then-row-at-eq1 : goal.shape_of-row-then-row-at-eq1
shape_of-row-then-row-at-eq1 t c = c.seek.auto.row ∙ simp length-set c.later-found.auto.row

pub returns-then-row-at-eq1 : goal.returns-then-row-at-eq1
returns-then-row-at-eq1 t c = later-then c.requires.shape c.if-at-links.false c.if-row-at-eq1.true c.requires.k_value c.mark.ensures c.later-found.ensures c.mark-then-row-at-eq1.ensures c.if-found.false
    c.later-found.auto.row c.seek.ensures

pub later-requires : goal.later-requires
later-requires t c = (omega (arith, c.requires.shape, c.requires.shape.upto, c.if-at-links.false), (shape-next c.requires.shape c.if-at-links.false refl refl, sym (matching-zero c.requires.shape c.if-at-links.false (matching-0or1 c.requires.shape c.if-at-links.false c.requires.k_value c.if-row-at-eq1.false)) ∙ c.requires.k_value))

pub returns : goal.returns
returns t c = skipped c.requires.shape c.if-at-links.false (matching-0or1 c.requires.shape c.if-at-links.false c.requires.k_value c.if-row-at-eq1.false) c.later.ensures
