use native.Mathlib.Omega.{arith}
use mathlib.Core.Path.{sym, ◌∙◌}
use borrow.Author.Tests.{not-true, not-false}
use Rattle.table.proofs.Sound.{sound-valid}
use Rattle.conformation.proofs.Laws.{sides-short-row, sides-short, sides-invalid, sides-done}
use Rattle.conformation.proofs.sides.Goals as goal

pub returns-then-row-lt-MAX_BONDS : goal.returns-then-row-lt-MAX_BONDS
returns-then-row-lt-MAX_BONDS c = let a = c.args in sides-short-row a.tables.atoms.now a.tables.bonds.now a.tables.n a.tables.m a.row.now c.if-row-lt-MAX_BONDS.true

pub returns-then-not-enough : goal.returns-then-not-enough
returns-then-not-enough c = let a = c.args in sides-short a.tables.atoms.now a.tables.bonds.now a.tables.n a.tables.m a.row.now c.if-row-lt-MAX_BONDS.false (sym c.enough.ensures ∙ not-true _ c.if-not-enough.true-raw)

pub returns-then-not-sound : goal.returns-then-not-sound
returns-then-not-sound c = let a = c.args in sides-invalid a.tables.atoms.now a.tables.bonds.now a.tables.n a.tables.m a.row.now c.if-row-lt-MAX_BONDS.false (sym c.enough.ensures ∙ not-false _ c.if-not-enough.false-raw) (sym c.sound.ensures ∙ not-true _ c.if-not-sound.true-raw) c.clear_from.ensures

pub fill-requires : goal.fill-requires
fill-requires c = let a = c.args in let v = sound-valid a.tables.atoms.now a.tables.bonds.now a.tables.n a.tables.m (sym c.sound.ensures ∙ not-false _ c.if-not-sound.false-raw) in (v.bonds_few, omega (arith, v.bonds_few, c.if-row-lt-MAX_BONDS.false))

pub clear_from-requires-2 : goal.clear_from-requires-2
clear_from-requires-2 c = let a = c.args in let v = sound-valid a.tables.atoms.now a.tables.bonds.now a.tables.n a.tables.m (sym c.sound.ensures ∙ not-false _ c.if-not-sound.false-raw) in omega (arith, v.bonds_few, c.if-row-lt-MAX_BONDS.false, c.fill.auto.row)

pub returns : goal.returns
returns c = let a = c.args in sides-done a.tables.atoms.now a.tables.bonds.now a.tables.n a.tables.m a.row.now c.if-row-lt-MAX_BONDS.false (sym c.enough.ensures ∙ not-false _ c.if-not-enough.false-raw) (sym c.sound.ensures ∙ not-false _ c.if-not-sound.false-raw) c.fill.ensures c.fill.auto.row c.clear_from-2.ensures
