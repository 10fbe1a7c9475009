use mathlib.Core.Path.{refl}
use Rattle.matching_search.proofs.Reply.{first-reply}
use Rattle.matching_engine.proofs.Taking.{shape-long, reply-after}
use Rattle.matching_engine.proofs.first.Goals as goal

pub returns-then-try_greedy : goal.returns-then-try_greedy
returns-then-try_greedy c = record { need_unchanged = refl; row_after = first-reply c.requires c.try_greedy.auto.row c.clear.ensures (c.try_greedy.ensures c.if-try_greedy.true) refl }

pub seek_any-found-requires : goal.seek_any-found-requires
seek_any-found-requires c = record { shape = shape-long c.requires c.try_greedy.auto.row; lasts = c.fill_lasts.ensures }

pub returns-then-found : goal.returns-then-found
returns-then-found c = record { need_unchanged = c.seek_any-found.ensures.same; row_after = reply-after c.requires c.try_greedy.auto.row c.seek_any-found.auto.row c.clear-2.ensures c.seek_any-found.ensures c.if-found.true }

pub returns-else-found : goal.returns-else-found
returns-else-found c = record { need_unchanged = c.seek_any-found.ensures.same; row_after = reply-after c.requires c.try_greedy.auto.row c.seek_any-found.auto.row c.clear-2.ensures c.seek_any-found.ensures c.if-found.false }
