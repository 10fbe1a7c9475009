-- Tables that pass the checks: their used rows are complete, and have the key of the whole tables. Assumes nothing.
use Prim.Native.Nat.{ℕ, ◌*◌}
use mathlib.Core.Path.{◌≡◌, sym, ap, ◌∙◌}
use mathlib.Core.Bool.{true}
use mathlib.Core.List.{List}
use lib.ListN.{length, take}
use lib.Seq.{length-take-le}
use lib.IntN.{ℤ}
use Rattle.table.specs.Limits.{atom_cells, bond_cells}
use Rattle.table.specs.Valid.{enough}
use Rattle.table.specs.Sound.{sound}
use Rattle.table.proofs.Valid.{enough-facts}
use Rattle.table.proofs.Sound.{sound-valid}
use Rattle.same_model.specs.Same.{molecule}
use Rattle.folding.specs.Folding.{folded, Complete}
use Rattle.redrawing.proofs.Claims.{enough-complete}
use Rattle.drawing_key.specs.Key.{key_of}
use Rattle.molecule_key.specs.Keyed.{keyed, keyed_of}
use Rattle.molecule_key.proofs.Used.{taken-agree, taken-complete}
use Rattle.molecule_key.proofs.Claims.{key-used}

pub checked-complete : (atoms bonds : List ℤ) (n m : ℕ) → enough atoms bonds ≡ true → sound atoms bonds n m ≡ true → Complete (molecule atoms bonds n m)
checked-complete atoms bonds n m e s = enough-complete (sound-valid atoms bonds n m s) (enough-facts atoms bonds e)

module _ {atoms bonds : List ℤ} {n m : ℕ} (c : Complete (molecule atoms bonds n m)) where
  pub used-atoms : length (take (atom_cells * n) atoms) ≡ atom_cells * n
  used-atoms = length-take-le (atom_cells * n) atoms c.atoms_room

  pub used-bonds : length (take (bond_cells * m) bonds) ≡ bond_cells * m
  used-bonds = length-take-le (bond_cells * m) bonds c.bonds_room

  pub used-key : {k : ℕ} → enough atoms bonds ≡ true → sound atoms bonds n m ≡ true → k ≡ key_of (folded (molecule (take (atom_cells * n) atoms) (take (bond_cells * m) bonds) n m)) → keyed 0 k ≡ keyed_of atoms bonds n m
  unfolding keyed_of
  used-key e s h = ap (keyed 0) (h ∙ sym (key-used (taken-agree atoms bonds n m) c (taken-complete c))) ∙ rw (e, s)
