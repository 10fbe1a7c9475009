use borrow.Author.Tests.{not-false}
use Rattle.writing_atoms.proofs.Common.{letter-atom}
use Rattle.buffer.proofs.Laws.{as_is}
use native.Mathlib.Omega.{arith}
use Rattle.writing_atoms.proofs.fields.atom.Goals as goal

pub common_letter-requires : goal.common_letter-requires
common_letter-requires c = let h = c.is_common.ensures (not-false _ c.if-not-is_common.false-raw) in record { le_e = (omega (arith, h.least, c.atom_number-e.ensures), omega (arith, h.most, c.atom_number-e.ensures)); selected_bound = omega (arith, h.chosen, c.atom_number-s.ensures) }

pub returns : goal.returns
returns c = as_is (letter-atom (c.is_plain.ensures (not-false _ c.if-not-is_plain.false-raw)) (c.is_common.ensures (not-false _ c.if-not-is_common.false-raw)) c.atom_number-e.ensures c.atom_number-s.ensures c.common_letter.ensures) c.put.ensures
