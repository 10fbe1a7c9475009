use mir.Syntax.{w32}
use mir.Facts.{to_z-of_z}
use native.Mathlib.Omega.{arith}
use mathlib.Core.Path.{sym, ◌∙◌}
use borrow.Author.Tests.{not-true, not-false}
use Rattle.reader_checks.proofs.Astray.{broken-tables, broken-bytes, broken-half, broken-told, broken-astray, half-with}
use Rattle.reader_checks.proofs.broken.broken.Goals as goal

pub overflow_cast-p-2 : goal.overflow_cast-p-2
overflow_cast-p-2 c = omega (arith, c.struct_known-2-1.given.1.1.1.1.1.1.1.1.1.1.1.1.1.1.1.1.0)

pub returns-then-not-valid : goal.returns-then-not-valid
returns-then-not-valid c = let a = c.args in broken-tables a.p a.atoms.now a.bonds.now (sym c.valid.ensures ∙ not-true _ c.if-not-valid.true-raw)

pub returns-then-p-gt-MAX_TEXT : goal.returns-then-p-gt-MAX_TEXT
returns-then-p-gt-MAX_TEXT c = let a = c.args in broken-bytes a.p a.atoms.now a.bonds.now c.if-p-gt-MAX_TEXT.true

pub returns-then-half_read_above : goal.returns-then-half_read_above
returns-then-half_read_above c = let a = c.args in broken-half a.p a.atoms.now a.bonds.now (sym (half-with a.p a.atoms.now a.bonds.now (to_z-of_z {w = w32} {z = a.p.charge} (record { sfits = c.struct_told-1.given.1.1.1.1.1.1.1.1.1.1.1.0.1 })) c.half_read_above.ensures) ∙ c.if-half_read_above.true)

pub returns-then-p-ne0 : goal.returns-then-p-ne0
returns-then-p-ne0 c = let a = c.args in broken-told a.p a.atoms.now a.bonds.now (sym c.valid.ensures ∙ not-false _ c.if-not-valid.false-raw) c.if-p-gt-MAX_TEXT.false (sym (half-with a.p a.atoms.now a.bonds.now (to_z-of_z {w = w32} {z = a.p.charge} (record { sfits = c.struct_told-1.given.1.1.1.1.1.1.1.1.1.1.1.0.1 })) c.half_read_above.ensures) ∙ c.if-half_read_above.false) c.if-p-ne0.true

pub returns : goal.returns
returns c = let a = c.args in c.astray.ensures ∙ broken-astray a.p a.atoms.now a.bonds.now (sym c.valid.ensures ∙ not-false _ c.if-not-valid.false-raw) c.if-p-gt-MAX_TEXT.false (sym (half-with a.p a.atoms.now a.bonds.now (to_z-of_z {w = w32} {z = a.p.charge} (record { sfits = c.struct_told-1.given.1.1.1.1.1.1.1.1.1.1.1.0.1 })) c.half_read_above.ensures) ∙ c.if-half_read_above.false) c.if-p-ne0.false
