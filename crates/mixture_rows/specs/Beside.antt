-- Two molecules side by side in one pair of tables: the atoms of the first and then of the second, the bonds of the first and then of the second, its ends moved up
use Rattle.std.specs.Prelude.{ℕ, ◌+◌, ◌<◌, ◌≡◌, List, ℤ, pos}
use Rattle.matching.specs.Enumeration.{Row, matchings}
use Rattle.table.specs.declared.Bond.{Bond}
use Rattle.table.specs.Cells.{number, end1, end2}
use Rattle.table.specs.Rows.{atom_row, bond_row}
use Rattle.table_graph.specs.Graph.{matching_of}

-- two tables with their counts of atoms and bonds
pub record Molecule : Type 0 where
  pub atoms : List ℤ
  pub bonds : List ℤ
  pub atom_count : ℕ
  pub bond_count : ℕ

-- 01: the entries of its book, its placements, in their order
abbrev pub matchings_of : Molecule → List Row
matchings_of t = matchings (matching_of t.atoms t.bonds t.atom_count t.bond_count) t.bond_count

-- a bond's row with both ends moved up by n
abbrev pub raised_row : ℕ → Bond → Bond
raised_row n x = record { first = pos (n + number x.first); second = pos (n + number x.second); kind = x.kind }

-- bonds1 has m bonds between n atoms, and bonds holds them and then the k bonds of bonds2, whose ends are moved up by n
pub record BondsBeside (n m k : ℕ) (bonds1 bonds2 bonds : List ℤ) : Type 0 where
  pub inside : (b : ℕ) → b < m → (end1 bonds1 b < n) × (end2 bonds1 b < n)
  pub first_bonds : (b : ℕ) → b < m → bond_row bonds b ≡ bond_row bonds1 b
  pub second_bonds : (b : ℕ) → b < k → bond_row bonds (m + b) ≡ raised_row n (bond_row bonds2 b)

-- the molecule j holds t and then u
pub record Beside (t u j : Molecule) : Type 0 where
  pub atoms_count : j.atom_count ≡ t.atom_count + u.atom_count
  pub bonds_count : j.bond_count ≡ t.bond_count + u.bond_count
  pub first_atoms : (a : ℕ) → a < t.atom_count → atom_row j.atoms a ≡ atom_row t.atoms a
  pub second_atoms : (a : ℕ) → a < u.atom_count → atom_row j.atoms (t.atom_count + a) ≡ atom_row u.atoms a
  pub bond_rows : BondsBeside t.atom_count t.bond_count u.bond_count t.bonds u.bonds j.bonds
