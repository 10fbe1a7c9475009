use native.Mathlib.Omega.{arith}
use Rattle.matching_skip.proofs.Laws.{none_below, matching-from, skipped-all}
use Rattle.matching_skip.proofs.skip.Goals as goal

pub later-found-requires : goal.later-found-requires
later-found-requires c = record { shape = c.requires.shape; k_value = (matching-from c.requires.shape c.requires.to_in_bounds.1, none_below, omega (arith, c.requires.to_in_bounds.0)) }

pub returns : goal.returns
returns c = record { need_unchanged = c.later-found.ensures.same; skipped = skipped-all c.requires.shape c.requires.to_in_bounds.0 c.later-found.auto.row c.clear.ensures c.later-found.ensures }
