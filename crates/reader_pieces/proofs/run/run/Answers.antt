use Rattle.std.proofs.Common.{rules}
use native.Mathlib.Omega.{arith}
use mathlib.Core.Path.{◌∙◌}
use mir.Facts.{to_z-of_z}
use mir.Syntax.{w32}
use Rattle.reader_bytes.specs.Step.{lent}
use Rattle.reader_pieces.proofs.Sound.{sound-bytes}
use Rattle.reader_pieces.proofs.Feeding.{run-ready, run_short, run-bounded, run-taken, run-early, run-refused}
use Rattle.reader_pieces.proofs.run.run.Goals as goal

pub read_piece-requires : goal.read_piece-requires
read_piece-requires c = let a = c.args in record { ready = run-ready a.p a.piece.now a.atoms.now a.bonds.now c.head_of.result c.cap_all.new.l c.cap_all-2.new.l c.head_of.ensures c.cap_all.ensures c.cap_all-2.ensures c.requires.0 c.requires.1 (search rules) (search rules); from_le_max_text = sound-bytes a.p a.atoms.now a.bonds.now c.requires.1 }

pub overflow_add-read : goal.overflow_add-read
overflow_add-read c = let a = c.args in omega (arith, run_short a.p a.piece.now a.atoms.now a.bonds.now c.head_of.result c.cap_all.new.l c.cap_all-2.new.l c.head_of.ensures c.cap_all.ensures c.cap_all-2.ensures (lent c.read_piece.new.hubs c.read_piece.new.openers c.read_piece.new.symbols c.read_piece.new.offsets c.read_piece.new.outsides c.read_piece.new.keys c.read_piece.new.atoms c.read_piece.new.bonds) c.in-Ok.h c.in-Ok.ensures)

pub overflow_cast-state : goal.overflow_cast-state
overflow_cast-state c = let a = c.args in omega (arith, run_short a.p a.piece.now a.atoms.now a.bonds.now c.head_of.result c.cap_all.new.l c.cap_all-2.new.l c.head_of.ensures c.cap_all.ensures c.cap_all-2.ensures (lent c.read_piece.new.hubs c.read_piece.new.openers c.read_piece.new.symbols c.read_piece.new.offsets c.read_piece.new.outsides c.read_piece.new.keys c.read_piece.new.atoms c.read_piece.new.bonds) c.in-Ok.h c.in-Ok.ensures)

pub overflow_cast-state-in-Ok : goal.overflow_cast-state-in-Ok
overflow_cast-state-in-Ok c = let a = c.args in omega (arith, (run-bounded a.p a.piece.now a.atoms.now a.bonds.now c.head_of.result c.cap_all.new.l c.cap_all-2.new.l c.head_of.ensures c.cap_all.ensures c.cap_all-2.ensures (lent c.read_piece.new.hubs c.read_piece.new.openers c.read_piece.new.symbols c.read_piece.new.offsets c.read_piece.new.outsides c.read_piece.new.keys c.read_piece.new.atoms c.read_piece.new.bonds) c.in-Ok.h c.in-Ok.ensures).hub)

pub overflow_cast-state-in-Ok-2 : goal.overflow_cast-state-in-Ok-2
overflow_cast-state-in-Ok-2 c = let a = c.args in omega (arith, (run-bounded a.p a.piece.now a.atoms.now a.bonds.now c.head_of.result c.cap_all.new.l c.cap_all-2.new.l c.head_of.ensures c.cap_all.ensures c.cap_all-2.ensures (lent c.read_piece.new.hubs c.read_piece.new.openers c.read_piece.new.symbols c.read_piece.new.offsets c.read_piece.new.outsides c.read_piece.new.keys c.read_piece.new.atoms c.read_piece.new.bonds) c.in-Ok.h c.in-Ok.ensures).atoms)

pub overflow_cast-state-in-Ok-3 : goal.overflow_cast-state-in-Ok-3
overflow_cast-state-in-Ok-3 c = let a = c.args in omega (arith, (run-bounded a.p a.piece.now a.atoms.now a.bonds.now c.head_of.result c.cap_all.new.l c.cap_all-2.new.l c.head_of.ensures c.cap_all.ensures c.cap_all-2.ensures (lent c.read_piece.new.hubs c.read_piece.new.openers c.read_piece.new.symbols c.read_piece.new.offsets c.read_piece.new.outsides c.read_piece.new.keys c.read_piece.new.atoms c.read_piece.new.bonds) c.in-Ok.h c.in-Ok.ensures).bonds)

pub overflow_cast-state-in-Ok-4 : goal.overflow_cast-state-in-Ok-4
overflow_cast-state-in-Ok-4 c = let a = c.args in omega (arith, (run-bounded a.p a.piece.now a.atoms.now a.bonds.now c.head_of.result c.cap_all.new.l c.cap_all-2.new.l c.head_of.ensures c.cap_all.ensures c.cap_all-2.ensures (lent c.read_piece.new.hubs c.read_piece.new.openers c.read_piece.new.symbols c.read_piece.new.offsets c.read_piece.new.outsides c.read_piece.new.keys c.read_piece.new.atoms c.read_piece.new.bonds) c.in-Ok.h c.in-Ok.ensures).depth)

pub overflow_cast-e : goal.overflow_cast-e
overflow_cast-e c = let a = c.args in omega (arith, run-early a.p a.piece.now a.atoms.now a.bonds.now c.head_of.result c.cap_all.new.l c.cap_all-2.new.l c.head_of.ensures c.cap_all.ensures c.cap_all-2.ensures (lent c.read_piece.new.hubs c.read_piece.new.openers c.read_piece.new.symbols c.read_piece.new.offsets c.read_piece.new.outsides c.read_piece.new.keys c.read_piece.new.atoms c.read_piece.new.bonds) _ _ c.in-Err.ensures)

pub shape_of-atoms-in-Ok : goal.shape_of-atoms-in-Ok
shape_of-atoms-in-Ok c = c.read_piece.auto.atoms

pub shape_of-bonds-in-Ok : goal.shape_of-bonds-in-Ok
shape_of-bonds-in-Ok c = c.read_piece.auto.bonds

pub returns-in-Ok : goal.returns-in-Ok
returns-in-Ok c = let a = c.args in rw c.reply.ensures (run-taken a.p a.piece.now a.atoms.now a.bonds.now c.head_of.result c.cap_all.new.l c.cap_all-2.new.l c.head_of.ensures c.cap_all.ensures c.cap_all-2.ensures (lent c.read_piece.new.hubs c.read_piece.new.openers c.read_piece.new.symbols c.read_piece.new.offsets c.read_piece.new.outsides c.read_piece.new.keys c.read_piece.new.atoms c.read_piece.new.bonds) c.in-Ok.h c.in-Ok.ensures c.mode_number.ensures c.mode_letter.ensures c.pending_number.ensures (to_z-of_z {w = w32} (search rules)))

pub returns-in-Err : goal.returns-in-Err
returns-in-Err c = let a = c.args in c.refuse.ensures ∙ rw c.blank.ensures (run-refused a.p a.piece.now a.atoms.now a.bonds.now c.head_of.result c.cap_all.new.l c.cap_all-2.new.l c.head_of.ensures c.cap_all.ensures c.cap_all-2.ensures (lent c.read_piece.new.hubs c.read_piece.new.openers c.read_piece.new.symbols c.read_piece.new.offsets c.read_piece.new.outsides c.read_piece.new.keys c.read_piece.new.atoms c.read_piece.new.bonds) _ _ c.in-Err.ensures c.code-c.ensures c.read_piece.auto.atoms c.read_piece.auto.bonds)
