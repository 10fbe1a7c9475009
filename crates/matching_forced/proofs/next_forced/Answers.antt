use mathlib.Core.Path.{refl, sym, ◌∙◌}
use Rattle.matching_search.proofs.Flags.{not-true, not-false}
use Rattle.matching_search.proofs.Reply.{refused-reply, shape_at}
use Rattle.matching_forced.proofs.Searching.{roomy-again}
use Rattle.matching_forced.proofs.Replying.{row_is, next-told}
use Rattle.matching_forced.proofs.next_forced.Goals as goal

pub returns-then-not-is_matching : goal.returns-then-not-is_matching
returns-then-not-is_matching c = refused-reply c.requires.shape (sym c.is_matching.ensures.0 ∙ not-true c.is_matching.result c.if-not-is_matching.true-raw) c.clear.ensures

pub later-found-requires : goal.later-found-requires
later-found-requires c = let was = sym c.is_matching.ensures.0 ∙ not-false c.is_matching.result c.if-not-is_matching.false-raw in
    record { shape = shape_at c.is_matching.ensures.1 c.requires.shape; roomy = roomy-again c.requires.shape refl c.is_matching.ensures.1 refl c.requires.roomy; row_value = row_is c.requires.shape c.is_matching.ensures.1 was }

pub returns-then-found : goal.returns-then-found
returns-then-found c = next-told c.requires.shape c.is_matching.ensures.1 (sym c.is_matching.ensures.0 ∙ not-false c.is_matching.result c.if-not-is_matching.false-raw) c.later-found.auto.row c.clear-2.ensures c.later-found.ensures.searched c.if-found.true

pub returns-else-found : goal.returns-else-found
returns-else-found c = next-told c.requires.shape c.is_matching.ensures.1 (sym c.is_matching.ensures.0 ∙ not-false c.is_matching.result c.if-not-is_matching.false-raw) c.later-found.auto.row c.clear-2.ensures c.later-found.ensures.searched c.if-found.false
