-- The key of a molecule in tables: what the call hands back, and what it does not look at
use Rattle.std.specs.Prelude.{ℕ, ◌<◌, ◌≡◌, List, ℤ, Result, Ok, Err}
use Rattle.loops.specs.Loop.{pick}
use Rattle.refusal.specs.declared.Refusal.{Refusal}
use Rattle.refusal.specs.Code.{code_of}
use Rattle.table.specs.Limits.{atom_cells, bond_cells}
use Rattle.table.specs.Cells.{atom_cell, bond_cell}
use Rattle.table.specs.Valid.{enough}
use Rattle.table.specs.Sound.{sound}
use Rattle.same_model.specs.Same.{Molecule, molecule}
use Rattle.folding.specs.Folding.{folded}
use Rattle.drawing_key.specs.Key.{key_of}

-- 0 with the key, or a refusal's code with 0
pub record KeyOut : Type 0 where
  pub code : ℕ
  pub key : ℕ

abbrev pub keyed : ℕ → ℕ → KeyOut
keyed c k = record { code = c; key = k }

abbrev pub told : Result ℕ Refusal → KeyOut
told (Ok k) = keyed 0 k
told (Err r) = keyed (code_of r) 0

-- 1, then 13, then the key of the folded molecule
unfoldable pub keyed_of : List ℤ → List ℤ → ℕ → ℕ → KeyOut
keyed_of atoms bonds n m = pick (enough atoms bonds) (pick (sound atoms bonds n m) (keyed 0 (key_of (folded (molecule atoms bonds n m)))) (keyed 13 0)) (keyed 1 0)

-- the same counts, and the same cells in the used rows
pub record Agree (x y : Molecule) : Type 0 where
  pub atoms_count : x.n ≡ y.n
  pub bonds_count : x.m ≡ y.m
  pub atoms_cells : (a f : ℕ) → a < x.n → f < atom_cells → atom_cell x.atoms a f ≡ atom_cell y.atoms a f
  pub bonds_cells : (b f : ℕ) → b < x.m → f < bond_cells → bond_cell x.bonds b f ≡ bond_cell y.bonds b f
