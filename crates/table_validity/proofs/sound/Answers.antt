use mathlib.Core.Path.{sym, ◌∙◌}
use borrow.Author.Tests.{not-true, not-false}
use Rattle.table.proofs.Valid.{facts}
use Rattle.table_validity.proofs.Degrees.{unsound, sound-told}
use Rattle.table_validity.proofs.sound.Goals as goal

pub returns-then-not-valid : goal.returns-then-not-valid
returns-then-not-valid c = unsound c.args.tables.atoms.now c.args.tables.bonds.now c.args.tables.n c.args.tables.m (sym c.valid.ensures ∙ not-true _ c.if-not-valid.true-raw)

pub late_check-requires : goal.late_check-requires
late_check-requires c = facts c.args.tables.atoms.now c.args.tables.bonds.now c.args.tables.n c.args.tables.m (sym c.valid.ensures ∙ not-false _ c.if-not-valid.false-raw)

pub returns : goal.returns
returns c = c.is_ok.ensures.value ∙ sound-told c.args.tables.atoms.now c.args.tables.bonds.now c.args.tables.n c.args.tables.m c.late_check.result (sym c.valid.ensures ∙ not-false _ c.if-not-valid.false-raw) c.late_check.ensures
