use Prim.Native.Nat.{ℕ}
use mathlib.Core.Path.{sym, ◌∙◌}
use mathlib.Core.Bool.{not}
use Rattle.std.proofs.Common.{rules}
use Rattle.table.specs.Marks.{crowded_bond, none_crowded}
use Rattle.table.proofs.Marks.{unmarked-crowded}
use Rattle.table.proofs.Ranges.{all_in_range}
use Rattle.table_marks.proofs.none_crowded.Goals as goal

pub returns-then-unmarked : goal.returns-then-unmarked
returns-then-unmarked c = let a = c.args in c.if-unmarked.true ∙ sym (unmarked-crowded a.bonds.now a.m (sym c.unmarked.ensures ∙ c.if-unmarked.true))

pub returns-else-unmarked : goal.returns-else-unmarked
unfolding none_crowded
returns-else-unmarked c = let a = c.args in all_in_range (λ (b : ℕ). not (crowded_bond a.bonds.now a.m b)) a.m c.all.ensures.ran (λ x b q k. search rules)
