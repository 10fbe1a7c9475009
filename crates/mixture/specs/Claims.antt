-- What is claimed of two texts joined by a dot (02, P13): the joined text is accepted, "its placements are exactly each row of the first followed by each row of the second, in 01's order. Their number is the product."
use Rattle.std.specs.Prelude.{ℕ, ◌+◌, ◌*◌, ◌≤◌, ◌<◌, ◌≡◌, true, List, length, ℤ}
use Rattle.table.specs.Limits.{max_atoms, max_bonds}
use Rattle.table.specs.Valid.{enough}
use Rattle.ids.specs.Limits.{max_text}
use Rattle.matching.specs.Enumeration.{Row}
use Rattle.reading.specs.Read.{ReadResult, read_of}
use Rattle.mixture_rows.specs.Rows.{followed}
use Rattle.mixture_rows.specs.Beside.{Molecule, matchings_of}
use Rattle.mixture.specs.Mixed.{joined_text, mixed}

-- the molecule that reading handed back, and all its matchings (01's placements) in 01's order
abbrev pub molecule_of : ReadResult → Molecule
molecule_of t = record { atoms = t.atoms; bonds = t.bonds; atom_count = t.atom_count; bond_count = t.bond_count }

abbrev pub matchings_read : ReadResult → List Row
matchings_read t = matchings_of (molecule_of t)

-- two texts, the tables that each is read into, and the tables that their join is read into
module _ (s t : List ℕ) (A₁ B₁ A₂ B₂ A B : List ℤ) where
  -- "two non-empty accepted texts .. whose join by a dot is within every limit": its bytes, atoms and bonds; the tables are as long as 01 asks
  pub record Joinable : Type 0 where
    pub first_some : 0 < length s
    pub second_some : 0 < length t
    pub first : (read_of s A₁ B₁).code ≡ 0
    pub second : (read_of t A₂ B₂).code ≡ 0
    pub bytes : length (joined_text s t) ≤ max_text
    pub atoms : (read_of s A₁ B₁).atom_count + (read_of t A₂ B₂).atom_count ≤ max_atoms
    pub bonds : (read_of s A₁ B₁).bond_count + (read_of t A₂ B₂).bond_count ≤ max_bonds
    pub room : enough A B ≡ true

  -- the joined text is accepted, with both molecules side by side; its matchings, and their number
  pub record Mixture : Type 0 where
    pub accepted : read_of (joined_text s t) A B ≡ mixed (read_of s A₁ B₁) (read_of t A₂ B₂) (length A) (length B)
    pub rows : matchings_read (read_of (joined_text s t) A B) ≡ followed (matchings_read (read_of s A₁ B₁)) (matchings_read (read_of t A₂ B₂))
    pub number : length (matchings_read (read_of (joined_text s t) A B)) ≡ length (matchings_read (read_of s A₁ B₁)) * length (matchings_read (read_of t A₂ B₂))
