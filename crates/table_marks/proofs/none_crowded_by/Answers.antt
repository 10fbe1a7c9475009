use Prim.Native.Nat.{ℕ}
use mathlib.Core.Path.{sym, ◌∙◌}
use mathlib.Core.Bool.{not}
use Rattle.std.proofs.Common.{rules}
use Rattle.table_marks.specs.Chosen.{crowded_choice, none_crowded_by}
use Rattle.table_marks.proofs.Laws.{unmarked-chosen}
use Rattle.table.proofs.Ranges.{all_in_range}
use Rattle.table_marks.proofs.none_crowded_by.Goals as goal

pub returns-then-unmarked : goal.returns-then-unmarked
returns-then-unmarked c = let a = c.args in c.if-unmarked.true ∙ sym (unmarked-chosen a.bonds.now a.m a.row.now (sym c.unmarked.ensures ∙ c.if-unmarked.true))

pub returns-else-unmarked : goal.returns-else-unmarked
unfolding none_crowded_by
returns-else-unmarked c = let a = c.args in all_in_range (λ (b : ℕ). not (crowded_choice a.bonds.now a.m a.row.now b)) a.m c.all.ensures.ran (λ x b q k. search rules)
