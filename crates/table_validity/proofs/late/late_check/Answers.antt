use mathlib.Core.Path.{sym, ◌∙◌}
use borrow.Author.Tests.{not-true, not-false}
use Rattle.table.proofs.Sound.{late-crowded, late-stray}
use Rattle.table_validity.proofs.Degrees.{late-counts, unmarked-counts}
use Rattle.table_validity.proofs.late.late_check.Goals as goal

pub returns-then-unmarked : goal.returns-then-unmarked
returns-then-unmarked c = let a = c.args in
    c.check_counts.ensures ∙ unmarked-counts a.tables.atoms.now a.tables.bonds.now a.tables.n a.tables.m (sym c.unmarked.ensures ∙ c.if-unmarked.true)

pub returns-then-not-none_crowded : goal.returns-then-not-none_crowded
returns-then-not-none_crowded c = let a = c.args in
    sym (late-crowded a.tables.atoms.now a.tables.bonds.now a.tables.n a.tables.m (sym c.none_crowded.ensures ∙ not-true _ c.if-not-none_crowded.true-raw))

pub returns-then-not-none_stray : goal.returns-then-not-none_stray
returns-then-not-none_stray c = let a = c.args in
    sym (late-stray a.tables.atoms.now a.tables.bonds.now a.tables.n a.tables.m (sym c.none_crowded.ensures ∙ not-false _ c.if-not-none_crowded.false-raw) (sym c.none_stray.ensures ∙ not-true _ c.if-not-none_stray.true-raw))

pub returns : goal.returns
returns c = let a = c.args in
    c.check_counts-2.ensures ∙ late-counts a.tables.atoms.now a.tables.bonds.now a.tables.n a.tables.m (sym c.none_crowded.ensures ∙ not-false _ c.if-not-none_crowded.false-raw) (sym c.none_stray.ensures ∙ not-false _ c.if-not-none_stray.false-raw)
