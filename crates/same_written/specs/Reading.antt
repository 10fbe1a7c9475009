-- The molecule that reading a text hands back, as P4 compares it
use Rattle.std.specs.Prelude.{ℕ, List}
use Rattle.reading.specs.Read.{ReadResult, read_of}
use Rattle.examples.specs.Said.{atom_rubbish, bond_rubbish}
use Rattle.same_model.specs.Same.{Molecule, molecule}

abbrev pub molecule_read : ReadResult → Molecule
molecule_read r = molecule r.atoms r.bonds r.atom_count r.bond_count

-- the molecule that a text is read as, into lent tables that hold rubbish
abbrev pub read_as : List ℕ → Molecule
read_as s = molecule_read (read_of s atom_rubbish bond_rubbish)
