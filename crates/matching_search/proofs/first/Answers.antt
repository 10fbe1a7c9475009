use Rattle.matching_search.proofs.Reply.{first-reply}
use Rattle.matching_search.proofs.first.Goals as goal

pub returns-then-found : goal.returns-then-found
returns-then-found c = record { need_unchanged = c.seek-found.ensures.same; row_after = first-reply c.requires c.seek-found.auto.row c.clear.ensures c.seek-found.ensures c.if-found.true }

pub returns-else-found : goal.returns-else-found
returns-else-found c = record { need_unchanged = c.seek-found.ensures.same; row_after = first-reply c.requires c.seek-found.auto.row c.clear.ensures c.seek-found.ensures c.if-found.false }
