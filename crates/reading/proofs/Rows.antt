-- Whether an atom's row is valid is told by the row. Assumes nothing.
use Prim.Native.Nat.{ℕ}
use mathlib.Core.Path.{◌≡◌, refl}
use mathlib.Core.Bool.{Bool}
use mathlib.Core.List.{List}
use lib.IntN.{ℤ}
use Rattle.table.specs.declared.Atom.{Atom}
use Rattle.table.specs.Rows.{atom_row}
use Rattle.table.specs.Valid.{atom_ok, selected_ok, atom_row_ok}

abbrev pub row_ok : Atom → Bool
row_ok x = atom_row_ok x.element x.selected x.isotope x.hydrogens x.charge x.extension x.mark

pub atom-ok-row : (t : List ℤ) (a : ℕ) → atom_ok t a ≡ row_ok (atom_row t a)
unfolding atom_ok selected_ok atom_row_ok
atom-ok-row t a = refl
