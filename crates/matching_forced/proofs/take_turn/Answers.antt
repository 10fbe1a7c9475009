use mathlib.Core.Path.{sym, ◌∙◌}
use native.Mathlib.Omega.{arith}
use Rattle.loops.proofs.Loops.{repeated-at}
use Rattle.matching.specs.Limits.{max_atoms}
use Rattle.matching_forced.proofs.Tallies.{said-stuck, not_stuck, said-pair, said-rests}
use Rattle.matching_forced.proofs.take_turn.Goals as goal

pub fill_counts-requires : goal.fill_counts-requires
fill_counts-requires c = record { bond_tables = c.requires.bond_tables; need_in_bounds = (omega (arith, c.requires.need_len_bound.0), c.requires.need_len_bound.1); by_index = λ v. repeated-at max_atoms v 0 }

pub returns-then-is_some : goal.returns-then-is_some
returns-then-is_some c = record { says = said-stuck c.fill_counts.ensures c.lowest_with.result c.lowest_with.ensures (sym c.is_some.ensures ∙ c.if-is_some.true) }

pub forced_bond-requires : goal.forced_bond-requires
forced_bond-requires c = record { bond_tables = c.requires.bond_tables; counted = (c.fill_counts.ensures, omega (arith, c.requires.need_len_bound.0, c.fill_counts.auto.counts)) }

pub returns-in-Some : goal.returns-in-Some
returns-in-Some c = record { says = said-pair c.fill_counts.ensures (not_stuck c.fill_counts.ensures c.lowest_with.result c.lowest_with.ensures (sym c.is_some.ensures ∙ c.if-is_some.false)) c.in-Some.bond c.in-Some.ensures }

pub returns-in-None : goal.returns-in-None
returns-in-None c = record { says = said-rests c.fill_counts.ensures (not_stuck c.fill_counts.ensures c.lowest_with.result c.lowest_with.ensures (sym c.is_some.ensures ∙ c.if-is_some.false)) c.in-None.ensures }
