-- 01, The tables: limits, row widths and fields, each with its `const` in src/lib.rt
use Rattle.std.specs.Prelude.{ℕ}
-- P7: at most 1,000 atoms and 1,100 bonds
pub use Rattle.ids.specs.Limits.{max_atoms, max_bonds}

-- an atom row has seven cells (02, P8: "An atom row gains a seventh cell"), a bond row three
abbrev pub atom_cells : ℕ
atom_cells = 7

abbrev pub bond_cells : ℕ
bond_cells = 3

-- the cells of an atom row, in their order
abbrev pub ELEMENT : ℕ
ELEMENT = 0

abbrev pub SELECTED : ℕ
SELECTED = 1

abbrev pub ISOTOPE : ℕ
ISOTOPE = 2

abbrev pub HYDROGENS : ℕ
HYDROGENS = 3

abbrev pub CHARGE : ℕ
CHARGE = 4

abbrev pub EXTENSION : ℕ
EXTENSION = 5

abbrev pub MARK : ℕ
MARK = 6

-- the cells of a bond row, in their order
abbrev pub FIRST : ℕ
FIRST = 0

abbrev pub SECOND : ℕ
SECOND = 1

abbrev pub KIND : ℕ
KIND = 2
