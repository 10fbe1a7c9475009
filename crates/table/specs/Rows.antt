-- 01, The tables: whole rows, read and written. A cell past the end is 0 and is not written; so is a row above the limit.
use Rattle.std.specs.Prelude.{ℕ, ◌*◌, List, [], ◌∷◌, ℤ, pos, ltb}
use Rattle.std.proofs.lemmas.List.Edits.{sets}
use Rattle.std.proofs.Common.{SFits}
use Rattle.std.specs.Int.{w32}
use Rattle.loops.specs.Loop.{pick}
use Rattle.table.specs.declared.Atom.{Atom}
use Rattle.table.specs.declared.Bond.{Bond}
use Rattle.table.specs.Limits.{max_atoms, max_bonds, atom_cells, bond_cells, ELEMENT, SELECTED, ISOTOPE, HYDROGENS, CHARGE, EXTENSION, MARK, FIRST, SECOND, KIND}
use Rattle.table.specs.Cells.{atom_cell, bond_cell}

-- the cells of an atom's row, as they stand in the table
abbrev pub atom_row : List ℤ → ℕ → Atom
atom_row t a =
    record {
      element = atom_cell t a ELEMENT;
      selected = atom_cell t a SELECTED;
      isotope = atom_cell t a ISOTOPE;
      hydrogens = atom_cell t a HYDROGENS;
      charge = atom_cell t a CHARGE;
      extension = atom_cell t a EXTENSION;
      mark = atom_cell t a MARK;
    }

-- a row of zeros
abbrev pub no_atom : Atom
no_atom =
    record {
      element = pos 0;
      selected = pos 0;
      isotope = pos 0;
      hydrogens = pos 0;
      charge = pos 0;
      extension = pos 0;
      mark = pos 0;
    }

unfoldable pub atom_at : List ℤ → ℕ → Atom
atom_at t a = pick (ltb a max_atoms) (atom_row t a) no_atom

-- the three cells of a bond's row, as they stand in the table
abbrev pub bond_row : List ℤ → ℕ → Bond
bond_row t b = record { first = bond_cell t b FIRST; second = bond_cell t b SECOND; kind = bond_cell t b KIND }

abbrev pub no_bond : Bond
no_bond = record { first = pos 0; second = pos 0; kind = pos 0 }

unfoldable pub bond_at : List ℤ → ℕ → Bond
bond_at t b = pick (ltb b max_bonds) (bond_row t b) no_bond

-- every cell of a row fits a cell of the table
pub record AtomFits (x : Atom) : Type 0 where
  pub element : SFits w32 x.element
  pub selected : SFits w32 x.selected
  pub isotope : SFits w32 x.isotope
  pub hydrogens : SFits w32 x.hydrogens
  pub charge : SFits w32 x.charge
  pub extension : SFits w32 x.extension
  pub mark : SFits w32 x.mark

pub record BondFits (x : Bond) : Type 0 where
  pub first : SFits w32 x.first
  pub second : SFits w32 x.second
  pub kind : SFits w32 x.kind

-- the cells of a row, in their order
abbrev pub cells_of : Atom → List ℤ
cells_of x = x.element ∷ x.selected ∷ x.isotope ∷ x.hydrogens ∷ x.charge ∷ x.extension ∷ x.mark ∷ []

abbrev pub bond_cells_of : Bond → List ℤ
bond_cells_of x = x.first ∷ x.second ∷ x.kind ∷ []

-- the table with the cells of one row replaced
unfoldable pub with_atom : List ℤ → ℕ → Atom → List ℤ
with_atom t a x = sets t (atom_cells * a) (cells_of x)

unfoldable pub put_atom : List ℤ → ℕ → Atom → List ℤ
put_atom t a x = pick (ltb a max_atoms) (with_atom t a x) t

unfoldable pub with_bond : List ℤ → ℕ → Bond → List ℤ
with_bond t b x = sets t (bond_cells * b) (bond_cells_of x)

unfoldable pub put_bond : List ℤ → ℕ → Bond → List ℤ
put_bond t b x = pick (ltb b max_bonds) (with_bond t b x) t
