use native.Mathlib.Omega.{arith}
use mathlib.Core.Path.{◌∙◌}
use mir.Facts.{to_z-of_z}
use Rattle.buffer.proofs.Laws.{also, as_is}
use Rattle.writing_atoms.proofs.Laws.{bracket-is}
use Rattle.writing_atoms.proofs.fields.bracket.Goals as goal

pub charge-at-requires : goal.charge-at-requires
charge-at-requires c = simp (to_z-of_z c.atom_cell.ensures.sfits) (rw c.atom_cell.ensures.value c.requires.atom_fits.charge)

pub atom_number-requires-4 : goal.atom_number-requires-4
atom_number-requires-4 c = omega (arith, c.requires.a_lt_max_atoms)

pub extension-at-requires : goal.extension-at-requires
extension-at-requires c = rw c.atom_number-4.ensures c.requires.atom_fits.extension

pub shape_of-out : goal.shape_of-out
shape_of-out c = c.put.auto.out ∙ c.extension-at.auto.out ∙ c.charge-at.auto.out ∙ c.hydrogens-at.auto.out ∙ c.mark-at.auto.out ∙ c.symbol-at.auto.out ∙ c.isotope-at.auto.out ∙ c.put-at.auto.out

pub returns : goal.returns
returns c = as_is (bracket-is _ _ _ _ _ _ _ _ _ c.atom_number.ensures c.atom_number-e.ensures c.atom_number-2.ensures c.atom_number-3.ensures (to_z-of_z c.atom_cell.ensures.sfits ∙ c.atom_cell.ensures.value) c.atom_number-4.ensures) (also c.put-at.ensures (also c.isotope-at.ensures (also c.symbol-at.ensures (also c.mark-at.ensures (also c.hydrogens-at.ensures (also c.charge-at.ensures (also c.extension-at.ensures c.put.ensures)))))))
