-- 01, The tables: what stands where in an atom row and in a bond row
use Rattle.std.specs.Prelude.{ℕ, ◌+◌, ◌*◌, List, Bool, ◌&&◌, ◌||◌, get_or, ℤ, pos, negsuc, eqb}
use Rattle.std.specs.Int.Signed.{le_z}
use Rattle.table.specs.Limits.{atom_cells, bond_cells, ELEMENT, SELECTED, HYDROGENS, MARK, FIRST, SECOND, KIND}

-- the number in a cell, 0 for a negative one
unfoldable pub number : ℤ → ℕ
number (pos n) = n
number (negsuc n) = 0

-- a number between two bounds
unfoldable pub in_range : ℤ → ℤ → ℤ → Bool
in_range x low high = le_z low x && le_z x high

-- the place of a field of an atom's row, and of a bond's row
abbrev pub atom_place : ℕ → ℕ → ℕ
atom_place a f = atom_cells * a + f

abbrev pub bond_place : ℕ → ℕ → ℕ
bond_place b f = bond_cells * b + f

-- a cell of an atom's row, and of a bond's row
abbrev pub atom_cell : List ℤ → ℕ → ℕ → ℤ
atom_cell t a f = get_or t (atom_place a f) (pos 0)

abbrev pub bond_cell : List ℤ → ℕ → ℕ → ℤ
bond_cell t b f = get_or t (bond_place b f) (pos 0)

-- the number in a cell of a row, by the cell's name
abbrev pub element : List ℤ → ℕ → ℕ
element t a = number (atom_cell t a ELEMENT)

abbrev pub selected : List ℤ → ℕ → ℕ
selected t a = number (atom_cell t a SELECTED)

abbrev pub hydrogens : List ℤ → ℕ → ℕ
hydrogens t a = number (atom_cell t a HYDROGENS)

-- 02, P8: "0 none, 1 for `@`, 2 for `@@`"
abbrev pub mark : List ℤ → ℕ → ℕ
mark t a = number (atom_cell t a MARK)

-- the first end and the second end of a bond, and its kind
abbrev pub end1 : List ℤ → ℕ → ℕ
end1 t b = number (bond_cell t b FIRST)

abbrev pub end2 : List ℤ → ℕ → ℕ
end2 t b = number (bond_cell t b SECOND)

abbrev pub kind : List ℤ → ℕ → ℕ
kind t b = number (bond_cell t b KIND)

-- the atom a is an end of the bond b
unfoldable pub touches : List ℤ → ℕ → ℕ → Bool
touches bonds a b = eqb (end1 bonds b) a || eqb (end2 bonds b) a
