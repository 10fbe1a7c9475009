-- 01, The tables: when tables with their two counts are valid, a test for each condition: the part of "sound" that also holds between the bytes of a text
use Rattle.std.specs.Prelude.{ℕ, ◌*◌, ◌≤◌, ◌≡◌, List, Bool, true, ◌&&◌, ◌||◌, not, length, ℤ, pos, negsuc, eqb, leb, ltb, Result, Ok, Err}
use Rattle.std.specs.Int.Signed.{le_z}
use Rattle.loops.specs.Loop.{each}
use Rattle.kinds.specs.Kind.{elided, max_kind}
use Rattle.refusal.specs.Code.{code_of}
use Rattle.refusal.specs.declared.Refusal.{Refusal}
use Rattle.table.specs.Limits.{max_atoms, max_bonds, atom_cells, bond_cells, ELEMENT, SELECTED, ISOTOPE, HYDROGENS, CHARGE, EXTENSION, MARK, FIRST, KIND}
use Rattle.table.specs.Cells.{number, in_range, atom_cell, bond_cell, element, selected, end1, end2}

-- 1: the counts are within the limits
abbrev pub counts_ok : ℕ → ℕ → Bool
counts_ok n m = leb n max_atoms && leb m max_bonds

-- 2: element is 0 to 118, isotope 0 to 999, hydrogens 0 to 9, charge -9 to 9, extension 0 to 9999
abbrev pub element_ok : List ℤ → ℕ → Bool
element_ok t a = in_range (atom_cell t a ELEMENT) (pos 0) (pos 118)

abbrev pub isotope_ok : List ℤ → ℕ → Bool
isotope_ok t a = in_range (atom_cell t a ISOTOPE) (pos 0) (pos 999)

abbrev pub hydrogens_ok : List ℤ → ℕ → Bool
hydrogens_ok t a = in_range (atom_cell t a HYDROGENS) (pos 0) (pos 9)

abbrev pub charge_ok : List ℤ → ℕ → Bool
charge_ok t a = in_range (atom_cell t a CHARGE) (negsuc 8) (pos 9)

abbrev pub extension_ok : List ℤ → ℕ → Bool
extension_ok t a = in_range (atom_cell t a EXTENSION) (pos 0) (pos 9999)

-- 02, P8: "0 none, 1 for `@`, 2 for `@@`, else unsound"
abbrev pub max_mark : ℕ
max_mark = 2

abbrev pub mark_ok : List ℤ → ℕ → Bool
mark_ok t a = in_range (atom_cell t a MARK) (pos 0) (pos max_mark)

-- 3: selected is 0, or 1 with element 6, 7, 8, 15 or 16
abbrev pub selectable : ℕ → Bool
selectable e = eqb e 6 || eqb e 7 || eqb e 8 || eqb e 15 || eqb e 16

unfoldable pub selected_ok : List ℤ → ℕ → Bool
selected_ok t a = in_range (atom_cell t a SELECTED) (pos 0) (pos 1) && (eqb (selected t a) 0 || selectable (element t a))

-- 4: kind is 0 to 3, the largest
abbrev pub kind_ok : List ℤ → ℕ → Bool
kind_ok t b = in_range (bond_cell t b KIND) (pos elided) (pos max_kind)

-- 5: the first end, an atom number and so not negative, is below the second
abbrev pub order_ok : List ℤ → ℕ → Bool
order_ok t b = le_z (pos 0) (bond_cell t b FIRST) && ltb (end1 t b) (end2 t b)

-- 6: the second end is below the atom count
abbrev pub second_ok : List ℤ → ℕ → ℕ → Bool
second_ok t n b = ltb (end2 t b) n

-- 7: no two bonds join the same two atoms: each bond joins other atoms than every bond before it
unfoldable pub same_ends : List ℤ → ℕ → ℕ → Bool
same_ends t i j = eqb (end1 t i) (end1 t j) && eqb (end2 t i) (end2 t j)

unfoldable pub fresh : List ℤ → ℕ → Bool
fresh t i = each (λ j. not (same_ends t i j)) 0 i

unfoldable pub distinct : List ℤ → ℕ → Bool
distinct t m = each (fresh t) 0 m

-- a row passes its conditions
unfoldable pub atom_ok : List ℤ → ℕ → Bool
atom_ok t a = element_ok t a && isotope_ok t a && hydrogens_ok t a && charge_ok t a && extension_ok t a && mark_ok t a && selected_ok t a

unfoldable pub bond_ok : List ℤ → ℕ → ℕ → Bool
bond_ok t n b = kind_ok t b && order_ok t b && second_ok t n b

-- the same tests on the cells of a row
abbrev pub selection_ok : ℤ → ℤ → Bool
selection_ok e s = in_range s (pos 0) (pos 1) && (eqb (number s) 0 || selectable (number e))

unfoldable pub atom_row_ok : ℤ → ℤ → ℤ → ℤ → ℤ → ℤ → ℤ → Bool
atom_row_ok e s i h c x k = in_range e (pos 0) (pos 118) && in_range i (pos 0) (pos 999) && in_range h (pos 0) (pos 9) && in_range c (negsuc 8) (pos 9) && in_range x (pos 0) (pos 9999) && in_range k (pos 0) (pos max_mark) && selection_ok e s

unfoldable pub bond_row_ok : ℤ → ℤ → ℤ → ℕ → Bool
bond_row_ok e f k n = in_range k (pos elided) (pos max_kind) && (le_z (pos 0) e && ltb (number e) (number f)) && ltb (number f) n

-- the tables pass all; cells after the used rows are not looked at
unfoldable pub valid : List ℤ → List ℤ → ℕ → ℕ → Bool
valid atoms bonds n m = counts_ok n m && each (atom_ok atoms) 0 n && each (bond_ok bonds n) 0 m && distinct bonds m

-- the same as facts, for a `requires`: tables that were found valid
pub record Valid (atoms bonds : List ℤ) (n m : ℕ) : Type 0 where
  pub atoms_few : n ≤ max_atoms
  pub bonds_few : m ≤ max_bonds
  pub atom_rows : each (atom_ok atoms) 0 n ≡ true
  pub bond_rows : each (bond_ok bonds n) 0 m ≡ true
  pub apart : distinct bonds m ≡ true

-- the tables are as long as 01 asks ("lent")
unfoldable pub enough : List ℤ → List ℤ → Bool
enough atoms bonds = leb (atom_cells * max_atoms) (length atoms) && leb (bond_cells * max_bonds) (length bonds)

-- 01's number for each answer of a check: 0, or the refusal's
abbrev pub check_code : Result (Unit {0}) Refusal → ℕ
check_code (Ok _) = 0
check_code (Err r) = code_of r
