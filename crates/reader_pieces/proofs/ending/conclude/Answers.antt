use Rattle.std.proofs.Common.{rules}
use native.Mathlib.Omega.{arith}
use Rattle.reader_pieces.proofs.Ends.{end-few, end-valid, end-rankable, molecule-few, end-molecule, end_refused}
use Rattle.reader_pieces.proofs.ending.conclude.Goals as goal

pub end-requires : goal.end-requires
end-requires c = let a = c.args in record { atoms_le_max_atoms = end-few a.p a.atoms.now a.bonds.now c.requires.0 c.requires.1; valid = end-valid a.p a.atoms.now a.bonds.now c.requires.0 c.requires.1; rankable = end-rankable a.p a.atoms.now a.bonds.now c.requires.0 c.requires.1 c.cap_all.ensures c.cap_all-2.ensures (search rules) }

pub overflow_mul-t : goal.overflow_mul-t
overflow_mul-t c = let a = c.args in omega (arith, (molecule-few a.p a.atoms.now a.bonds.now c.requires.0 c.requires.1 c.cap_all.ensures c.cap_all-2.ensures c.end.result c.end.new.atoms c.end.new.bonds c.end.ensures c.in-Ok.is).0)

pub overflow_mul-t-in-Ok : goal.overflow_mul-t-in-Ok
overflow_mul-t-in-Ok c = let a = c.args in omega (arith, (molecule-few a.p a.atoms.now a.bonds.now c.requires.0 c.requires.1 c.cap_all.ensures c.cap_all-2.ensures c.end.result c.end.new.atoms c.end.new.bonds c.end.ensures c.in-Ok.is).1)

pub returns-in-Ok : goal.returns-in-Ok
returns-in-Ok c = let a = c.args in end-molecule a.p a.atoms.now a.bonds.now c.requires.0 c.requires.1 c.cap_all.ensures c.cap_all-2.ensures c.end.result c.end.new.atoms c.end.new.bonds c.end.ensures c.in-Ok.is c.clear_from.ensures c.clear_from-in-Ok.ensures c.blank-over.ensures

pub returns-in-Err : goal.returns-in-Err
returns-in-Err c = let a = c.args in rw c.reply.ensures (end_refused a.p a.atoms.now a.bonds.now c.requires.0 c.requires.1 c.cap_all.ensures c.cap_all-2.ensures c.end.result c.end.new.atoms c.end.new.bonds c.end.ensures c.in-Err.is c.code.ensures c.blank-over.ensures)
