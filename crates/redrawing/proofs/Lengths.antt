-- Kekulizing keeps the lengths of the tables. Assumes nothing.
use mathlib.Core.Path.{◌≡◌, refl, ◌∙◌}
use mathlib.Core.Bool.{Bool, true, false}
use mathlib.Core.List.{List}
use Prim.Native.Nat.{ℕ, zero, suc}
use lib.Dec.{eqb}
use lib.ListN.{length, get_or, set, length-set}
use lib.IntN.{ℤ, pos}
use Rattle.loops.specs.Loop.{pick, run}
use Rattle.table.specs.Limits.{SELECTED, KIND}
use Rattle.table.specs.Cells.{atom_place, bond_place}
use Rattle.table.specs.Edits.{doubled, doubled_by, doubled_bonds, unselected, unselected_atoms}
use Rattle.table.proofs.Valid.{Enough}
use Rattle.matching.specs.Enumeration.{Row}
use Rattle.same_model.specs.Same.{Molecule, settled}

run_length : (step : ℕ → List ℤ → List ℤ) → ((k : ℕ) (t : List ℤ) → length (step k t) ≡ length t) → (k m : ℕ) (t : List ℤ) → length (run step k m t) ≡ length t
unfolding run
run_length step h k zero t = refl
run_length step h k (suc m) t = run_length step h (suc k) m (step k t) ∙ h k t

atoms-length : (n : ℕ) (t : List ℤ) → length (unselected_atoms n t) ≡ length t
unfolding unselected_atoms
atoms-length n t = run_length unselected (λ k u. length-set u (atom_place k SELECTED) (pos 0)) 0 n t

step-length : (row : List ℕ) (b : ℕ) (t : List ℤ) → length (doubled_by row b t) ≡ length t
unfolding doubled
step-length row b t = go (eqb (get_or row b 0) 1)
  where
    go : (x : Bool) → length (pick x (set t (bond_place b KIND) (pos 2)) t) ≡ length t
    go true = length-set t (bond_place b KIND) (pos 2)
    go false = refl

bonds-length : (row : List ℕ) (m : ℕ) (t : List ℤ) → length (doubled_bonds row m t) ≡ length t
unfolding doubled_bonds
bonds-length row m t = run_length (doubled_by row) (step-length row) 0 m t

pub settled-enough : (x : Molecule) (r : Row) → Enough x.atoms x.bonds → Enough (settled x r).atoms (settled x r).bonds
settled-enough x r e = record { atoms_room = rw (atoms-length x.n x.atoms) e.atoms_room; bonds_room = rw (bonds-length r x.m x.bonds) e.bonds_room }
