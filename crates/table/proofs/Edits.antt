-- Edited tables cell by cell: what an edit writes, and that every other cell is as it was. Assumes nothing.
use Prim.Native.Nat.{ℕ, zero, suc, ◌+◌, ◌*◌, ◌≤◌, ◌<◌}
use native.Mathlib.Omega.{arith}
use mathlib.Core.Path.{◌≡◌, refl, ap, ◌∙◌}
use mathlib.Core.Bool.{Bool, true, false}
use mathlib.Core.List.{List}
use lib.ListN.{length, get_or, set, length-set}
use lib.Seq.{get_or-set_same, get_or-set_other}
use lib.IntN.{ℤ, pos}
use lib.Dec.{eqb}
use Rattle.loops.specs.Loop.{pick, run}
use Rattle.table.specs.Limits.{atom_cells, bond_cells, SELECTED, KIND}
use Rattle.table.specs.Cells.{atom_place, bond_place, atom_cell, bond_cell}
use Rattle.table.specs.Edits.{doubled, doubled_by, doubled_bonds, unselected, unselected_atoms}

-- one loop over the selected cells: a cell that no step writes, and one that a step clears
other : (k m i : ℕ) (t : List ℤ) → ((j : ℕ) → k ≤ j → j < k + m → i ≡ atom_place j SELECTED → ⊥) → get_or (run unselected k m t) i (pos 0) ≡ get_or t i (pos 0)
unfolding run
other k zero i t h = refl
other k (suc m) i t h =
    other (suc k) m i (set t (atom_place k SELECTED) (pos 0)) (λ j l u e. h j (omega arith) (omega arith) e)
    ∙ get_or-set_other t (atom_place k SELECTED) i (pos 0) (pos 0) (h k (omega arith) (omega arith))

cleared : (k m j : ℕ) (t : List ℤ) → j < m → atom_place (k + j) SELECTED < length t → get_or (run unselected k m t) (atom_place (k + j) SELECTED) (pos 0) ≡ pos 0
unfolding run
cleared k zero j t l r = absurd (omega arith)
cleared k (suc m) zero t l r =
    let e : atom_place (k + 0) SELECTED ≡ atom_place k SELECTED = omega arith in
    let w : atom_place k SELECTED < length t = omega arith in
    rw e (other (suc k) m (atom_place k SELECTED) (set t (atom_place k SELECTED) (pos 0)) (λ j l u e. omega arith) ∙ get_or-set_same t (atom_place k SELECTED) (pos 0) (pos 0) w)
cleared k (suc m) (suc j) t l r =
    let e : k + suc j ≡ suc k + j = omega arith in
    let w : atom_place (suc k + j) SELECTED < length (set t (atom_place k SELECTED) (pos 0)) = simp length-set (omega arith) in
    rw e (cleared (suc k) m j (set t (atom_place k SELECTED) (pos 0)) (omega arith) w)

-- 01, Settling: every selected cell is cleared
pub unselected-cell : (n a : ℕ) (t : List ℤ) → a < n → atom_place a SELECTED < length t → atom_cell (unselected_atoms n t) a SELECTED ≡ pos 0
unfolding unselected_atoms
unselected-cell n a t l r = let e : 0 + a ≡ a = omega arith in rw e at (cleared 0 n a t l (omega arith))

-- all else stays
pub unselected-field : (n a f : ℕ) (t : List ℤ) → f < atom_cells → (f ≡ SELECTED → ⊥) → atom_cell (unselected_atoms n t) a f ≡ atom_cell t a f
unfolding unselected_atoms
unselected-field n a f t l h = other 0 n (atom_place a f) t (λ j u v e. h (omega arith))

-- cells after the used rows included
pub unselected-rest : (n i : ℕ) (t : List ℤ) → atom_cells * n ≤ i → get_or (unselected_atoms n t) i (pos 0) ≡ get_or t i (pos 0)
unfolding unselected_atoms
unselected-rest n i t h = other 0 n i t (λ j u v e. omega arith)

-- one bond: the length, a cell that is not its kind, and its kind
step-length : (row : List ℕ) (b : ℕ) (t : List ℤ) → length (doubled_by row b t) ≡ length t
unfolding doubled
step-length row b t = go (eqb (get_or row b 0) 1)
  where
    go : (x : Bool) → length (pick x (set t (bond_place b KIND) (pos 2)) t) ≡ length t
    go true = length-set t (bond_place b KIND) (pos 2)
    go false = refl

step_other : (row : List ℕ) (b i : ℕ) (t : List ℤ) → (i ≡ bond_place b KIND → ⊥) → get_or (doubled_by row b t) i (pos 0) ≡ get_or t i (pos 0)
unfolding doubled
step_other row b i t h = go (eqb (get_or row b 0) 1)
  where
    go : (x : Bool) → get_or (pick x (set t (bond_place b KIND) (pos 2)) t) i (pos 0) ≡ get_or t i (pos 0)
    go true = get_or-set_other t (bond_place b KIND) i (pos 2) (pos 0) h
    go false = refl

step_same : (row : List ℕ) (b : ℕ) (t : List ℤ) → bond_place b KIND < length t → get_or (doubled_by row b t) (bond_place b KIND) (pos 0) ≡ pick (eqb (get_or row b 0) 1) (pos 2) (bond_cell t b KIND)
unfolding doubled
step_same row b t h = go (eqb (get_or row b 0) 1)
  where
    go : (x : Bool) → get_or (pick x (set t (bond_place b KIND) (pos 2)) t) (bond_place b KIND) (pos 0) ≡ pick x (pos 2) (bond_cell t b KIND)
    go true = get_or-set_same t (bond_place b KIND) (pos 2) (pos 0) h
    go false = refl

-- the loop over the bonds: a cell that no step writes, and the kind of a bond
run-other : (row : List ℕ) (k m i : ℕ) (t : List ℤ) → ((j : ℕ) → k ≤ j → j < k + m → i ≡ bond_place j KIND → ⊥) → get_or (run (doubled_by row) k m t) i (pos 0) ≡ get_or t i (pos 0)
unfolding run
run-other row k zero i t h = refl
run-other row k (suc m) i t h =
    run-other row (suc k) m i (doubled_by row k t) (λ j l u e. h j (omega arith) (omega arith) e) ∙ step_other row k i t (h k (omega arith) (omega arith))

run-same : (row : List ℕ) (k m j : ℕ) (t : List ℤ) → j < m → bond_place (k + j) KIND < length t → bond_cell (run (doubled_by row) k m t) (k + j) KIND ≡ pick (eqb (get_or row (k + j) 0) 1) (pos 2) (bond_cell t (k + j) KIND)
unfolding run
run-same row k zero j t l r = absurd (omega arith)
run-same row k (suc m) zero t l r =
    let e : k + 0 ≡ k = omega arith in
    let w : bond_place k KIND < length t = omega arith in
    rw e (run-other row (suc k) m (bond_place k KIND) (doubled_by row k t) (λ j l u e. omega arith) ∙ step_same row k t w)
run-same row k (suc m) (suc j) t l r =
    let e : k + suc j ≡ suc k + j = omega arith in
    let w : bond_place (suc k + j) KIND < length (doubled_by row k t) = rw (step-length row k t) (omega arith) in
    rw e
    (run-same row (suc k) m j (doubled_by row k t) (omega arith) w
    ∙ ap (pick (eqb (get_or row (suc k + j) 0) 1) (pos 2)) (step_other row k (bond_place (suc k + j) KIND) t (λ q. omega arith)))

-- 01, Settling: the bonds of the row become kind 2
pub doubled-kind : (row : List ℕ) (m b : ℕ) (t : List ℤ) → b < m → bond_place b KIND < length t → bond_cell (doubled_bonds row m t) b KIND ≡ pick (eqb (get_or row b 0) 1) (pos 2) (bond_cell t b KIND)
unfolding doubled_bonds
doubled-kind row m b t l r = let e : 0 + b ≡ b = omega arith in rw e at (run-same row 0 m b t l (omega arith))

-- all else stays
pub doubled-field : (row : List ℕ) (m b f : ℕ) (t : List ℤ) → f < bond_cells → (f ≡ KIND → ⊥) → bond_cell (doubled_bonds row m t) b f ≡ bond_cell t b f
unfolding doubled_bonds
doubled-field row m b f t l h = run-other row 0 m (bond_place b f) t (λ j u v e. h (omega arith))

-- cells after the used rows included
pub doubled-rest : (row : List ℕ) (m i : ℕ) (t : List ℤ) → bond_cells * m ≤ i → get_or (doubled_bonds row m t) i (pos 0) ≡ get_or t i (pos 0)
unfolding doubled_bonds
doubled-rest row m i t h = run-other row 0 m i t (λ j u v e. omega arith)
