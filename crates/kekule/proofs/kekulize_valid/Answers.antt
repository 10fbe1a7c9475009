use Rattle.kekule.proofs.kekulize_valid.Goals as goal

pub returns : goal.returns
returns c = simp (c.unselect_atoms.ensures, c.double_bonds.ensures)
