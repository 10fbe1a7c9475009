use native.Mathlib.Omega.{arith}
use Rattle.reader.proofs.ending.end.Goals as goal

pub end_row-requires : goal.end_row-requires
end_row-requires c = let p = c.requires in
    record { atoms_le_max_atoms = p.atoms_le_max_atoms; valid = p.valid; rankable = p.rankable; bonds_in_bounds = omega (arith, p.atoms_le_max_atoms.1) }
