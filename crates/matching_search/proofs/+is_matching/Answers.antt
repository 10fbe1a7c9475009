use mathlib.Core.Path.{refl, sym, ◌∙◌}
use native.Mathlib.Omega.{arith}
use Rattle.matching_search.proofs.Choice.{here3, ends-here, shape-next}
use Rattle.matching_search.proofs.Check.{matching-end, matching-zero, matching-other, matching-not, matching-chosen}
use Rattle.matching_search.proofs.Flags.{not-true, not-false}
use Rattle.matching_search.proofs.+is_matching.Goals as goal

pub returns-then-at-links : goal.returns-then-at-links
returns-then-at-links t c = (c.all_paired.ensures ∙ sym (matching-end c.requires c.if-at-links.true), refl)

pub is_matching-requires : goal.is_matching-requires
is_matching-requires t c = (omega (arith, c.requires.upto, c.if-at-links.false), shape-next c.requires c.if-at-links.false refl refl)

pub returns-then-x-eq0 : goal.returns-then-x-eq0
returns-then-x-eq0 t c = (c.is_matching.ensures.0 ∙ sym (matching-zero c.requires c.if-at-links.false c.if-x-eq0.true), c.is_matching.ensures.1)

pub returns-then-x-ne1 : goal.returns-then-x-ne1
returns-then-x-ne1 t c = (sym (matching-other c.requires c.if-at-links.false c.if-x-eq0.false c.if-x-ne1.true), refl)

pub choosable-requires : goal.choosable-requires
choosable-requires t c = record { ends = ends-here c.requires c.if-at-links.false refl; k_in_bounds = here3 c.requires c.if-at-links.false }

pub returns-then-not-choosable : goal.returns-then-not-choosable
returns-then-not-choosable t c = (sym (matching-not c.requires c.if-at-links.false c.choosable.ensures (not-true c.choosable.result c.if-not-choosable.true-raw) c.if-x-ne1.false), refl)

pub mark-requires : goal.mark-requires
mark-requires t c = ends-here c.requires c.if-at-links.false refl

pub is_matching-rest-requires : goal.is_matching-rest-requires
is_matching-rest-requires t c = (omega (arith, c.requires.upto, c.if-at-links.false), shape-next c.requires c.if-at-links.false c.mark.auto.need refl)

pub mark-requires-2 : goal.mark-requires-2
mark-requires-2 t c = ends-here c.requires c.if-at-links.false (c.is_matching-rest.auto.need ∙ c.mark.auto.need)

pub returns : goal.returns
returns t c = matching-chosen c.requires c.if-at-links.false c.choosable.ensures (not-false c.choosable.result c.if-not-choosable.false-raw) c.if-x-ne1.false c.mark.ensures c.is_matching-rest.ensures c.mark-2.ensures
