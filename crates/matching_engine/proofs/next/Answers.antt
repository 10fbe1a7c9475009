use mathlib.Core.Path.{sym, ◌∙◌}
use Rattle.matching_search.proofs.Flags.{not-true, not-false}
use Rattle.matching_certified.proofs.Reason.{tables}
use Rattle.matching_search.proofs.Reply.{next-reply, refused-reply, shape_at, matching-at}
use Rattle.matching_engine.proofs.next.Goals as goal

pub returns-then-not-is_matching : goal.returns-then-not-is_matching
returns-then-not-is_matching c = record { need_unchanged = c.is_matching.ensures.1; row_after = refused-reply c.requires (sym c.is_matching.ensures.0 ∙ not-true c.is_matching.result c.if-not-is_matching.true-raw) c.clear.ensures }

pub fill_lasts-requires : goal.fill_lasts-requires
fill_lasts-requires c = tables (shape_at c.is_matching.ensures.1 c.requires)

pub later-found-requires : goal.later-found-requires
later-found-requires c = record { shape = shape_at c.is_matching.ensures.1 c.requires; k_value = (matching-at c.requires c.is_matching.ensures.1 (sym c.is_matching.ensures.0 ∙ not-false c.is_matching.result c.if-not-is_matching.false-raw), c.fill_lasts.ensures) }

pub returns-then-found : goal.returns-then-found
returns-then-found c = record {
  need_unchanged = c.later-found.ensures.same ∙ c.is_matching.ensures.1;
  row_after = next-reply c.requires c.later-found.auto.row c.clear-2.ensures (sym c.is_matching.ensures.0 ∙ not-false c.is_matching.result c.if-not-is_matching.false-raw)
      c.is_matching.ensures.1 c.later-found.ensures c.if-found.true;
}

pub returns-else-found : goal.returns-else-found
returns-else-found c = record {
  need_unchanged = c.later-found.ensures.same ∙ c.is_matching.ensures.1;
  row_after = next-reply c.requires c.later-found.auto.row c.clear-2.ensures (sym c.is_matching.ensures.0 ∙ not-false c.is_matching.result c.if-not-is_matching.false-raw)
      c.is_matching.ensures.1 c.later-found.ensures c.if-found.false;
}
