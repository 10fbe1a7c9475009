use mir.Facts.{to_z-of_z}
use mir.Syntax.{w32}
use Rattle.reader_pieces.proofs.TakenUp.{head-so}
use native.Mathlib.Omega.{arith}
use Rattle.reader_pieces.proofs.run.head_of.Goals as goal

pub overflow_cast-result-2 : goal.overflow_cast-result-2
overflow_cast-result-2 c = omega (arith, c.struct_known-2-1.given.1.1.1.1.1.1.1.1.1.1.1.1.1.1.1.0)

pub overflow_cast-result-3 : goal.overflow_cast-result-3
overflow_cast-result-3 c = omega (arith, c.struct_known-3-1.given.1.1.1.1.1.1.1.1.1.1.1.1.1.1.1.1.0)

pub overflow_cast-result-4 : goal.overflow_cast-result-4
overflow_cast-result-4 c = omega (arith, c.struct_known-4-1.given.1.1.1.1.1.1.1.1.1.1.1.1.1.1.1.1.1.0)

pub returns : goal.returns
returns c = let a = c.args in head-so a.p c.mode_in-mode.ensures (to_z-of_z {w = w32} {z = a.p.charge} (record { sfits = c.struct_told-1.given.1.1.1.1.1.1.1.1.1.1.1.0.1 })) c.extension_in.ensures
