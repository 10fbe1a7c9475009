-- auxiliary: the letters of a symbol, and the ranges of an atom's fields, for the contracts of its spelling
use Rattle.std.specs.Prelude.{ℕ, ◌+◌, ◌<◌, ◌≤◌, true, List, [], ◌∷◌, ◌≡◌, ℤ, pos, negsuc, eqb}
use Rattle.loops.specs.Loop.{pick}
use Rattle.element.specs.declared.Spelling.{Spelling}
use Rattle.table.specs.Limits.{ISOTOPE, CHARGE, EXTENSION}
use Rattle.table.specs.Cells.{number, in_range, atom_cell, element, selected, hydrogens}

-- the letters of a symbol; 0 is none
unfoldable pub letters : Spelling → List ℕ
letters s = pick (eqb s.first 0) [] (s.first ∷ pick (eqb s.second 0) [] (s.second ∷ []))

-- the fields of an atom are in their ranges
pub record AtomFits (t : List ℤ) (a : ℕ) : Type 0 where
  pub element : element t a < 119
  pub isotope : number (atom_cell t a ISOTOPE) < 1000
  pub hydrogens : hydrogens t a < 10
  pub charge : in_range (atom_cell t a CHARGE) (negsuc 8) (pos 9) ≡ true
  pub extension : number (atom_cell t a EXTENSION) < 10000

-- an atom that has neither charge nor isotope nor extension, and no mark k
pub record Plain (t : List ℤ) (a k : ℕ) : Type 0 where
  pub charge : in_range (atom_cell t a CHARGE) (pos 0) (pos 0) ≡ true
  pub isotope : in_range (atom_cell t a ISOTOPE) (pos 0) (pos 0) ≡ true
  pub extension : in_range (atom_cell t a EXTENSION) (pos 0) (pos 0) ≡ true
  pub mark : k ≡ 0

-- a carbon, nitrogen or oxygen, selected or not, whose bonds and hydrogens make up its first target, which is 10 less its atomic number
pub record Common (t : List ℤ) (a sum : ℕ) : Type 0 where
  pub least : 6 ≤ element t a
  pub most : element t a ≤ 8
  pub chosen : selected t a ≤ 1
  pub target : element t a + selected t a + sum + hydrogens t a ≡ 10

-- C, N or O
unfoldable pub capital : ℕ → ℕ
capital e = pick (eqb e 6) 67 (pick (eqb e 7) 78 79)
