-- Laws of whole rows: writing a row's cells one after the other, and what stands in the table then. Assumes nothing.
use Prim.Native.Nat.{ℕ, zero, suc, ◌+◌, ◌*◌, ◌<◌, ◌≤◌}
use native.Mathlib.Omega.{arith}
use native.Mathlib.Nat.{add-zero}
use native.Mathlib.Numerals.{towards_suc}
use mathlib.Core.Path.{◌≡◌, refl, ap, ◌∙◌}
use mathlib.Core.Logic.{◌⊎◌, ⊎_elim}
use mathlib.Core.List.{List, [], ◌∷◌}
use lib.ListN.{length, get_or, set, length-set}
use lib.Seq.{sets, length-sets, get_or-set_same, get_or-set_other, set-set, set_comm}
use lib.IntN.{ℤ, pos}
use Rattle.table.specs.declared.Atom.{Atom}
use Rattle.table.specs.declared.Bond.{Bond}
use Rattle.table.specs.Limits.{atom_cells, bond_cells, ELEMENT, SELECTED, ISOTOPE, HYDROGENS, CHARGE, EXTENSION, MARK, FIRST, SECOND, KIND}
use Rattle.table.specs.Cells.{atom_place, bond_place, atom_cell, bond_cell}
use Rattle.table.specs.Rows.{atom_row, bond_row, cells_of, bond_cells_of, with_atom, with_bond}

-- ---- cells written one after the other, from a place on
module _ {A : Type 0} (z : A) where
  sets-before : (vs l : List A) (i j : ℕ) → j < i → get_or (sets l i vs) j z ≡ get_or l j z
  sets-before [] l i j h = refl
  sets-before (v ∷ vs) l i j h = sets-before vs (set l i v) (suc i) j (omega arith) ∙ get_or-set_other l i j v z (λ q. omega arith)

  sets-after : (vs l : List A) (i j : ℕ) → i + length vs ≤ j → get_or (sets l i vs) j z ≡ get_or l j z
  sets-after [] l i j h = refl
  sets-after (v ∷ vs) l i j h = sets-after vs (set l i v) (suc i) j (omega arith) ∙ get_or-set_other l i j v z (λ q. omega arith)

  sets-in : (vs l : List A) (i f : ℕ) → f < length vs → i + length vs ≤ length l → get_or (sets l i vs) (i + f) z ≡ get_or vs f z
  sets-in [] l i f h g = absurd (omega arith)
  sets-in (v ∷ vs) l i zero h g = rw add-zero (sets-before vs (set l i v) (suc i) i (omega arith) ∙ get_or-set_same l i v z (omega arith))
  sets-in (v ∷ vs) l i (suc f) h g =
      let e : i + suc f ≡ suc i + f = omega arith in
      rw e (sets-in vs (set l i v) (suc i) f (omega arith) (rw length-set (omega arith)))

module _ {A : Type 0} where
  set_before : (vs l : List A) (i j : ℕ) (v : A) → j < i → set (sets l i vs) j v ≡ sets (set l j v) i vs
  set_before [] l i j v h = refl
  set_before (x ∷ vs) l i j v h = set_before vs (set l i x) (suc i) j v (omega arith) ∙ ap (λ (t : List A). sets t (suc i) vs) (set_comm l i j x v (λ e. omega arith))

  sets-again : (us vs l : List A) (i : ℕ) → length us ≡ length vs → sets (sets l i us) i vs ≡ sets l i vs
  sets-again [] [] l i e = refl
  sets-again [] (v ∷ vs) l i e = absurd (omega arith)
  sets-again (u ∷ us) [] l i e = absurd (omega arith)
  sets-again (u ∷ us) (v ∷ vs) l i e =
      ap (λ (t : List A). sets t (suc i) vs) (set_before us (set l i u) (suc i) i v (omega arith) ∙ ap (λ (t : List A). sets t (suc i) us) (set-set l i u v))
      ∙ sets-again us vs (set l i v) (suc i) (omega arith)

-- ---- the cells of a row, by name
pub put-atom-law :
    {t1 t2 t3 t4 t5 t6 t7 : List ℤ} {v1 v2 v3 v4 v5 v6 v7 : ℤ} (t : List ℤ) (a : ℕ) (x : Atom) → t1 ≡ set t (atom_place a ELEMENT) v1 → v1 ≡ x.element → t2 ≡ set t1 (atom_place a SELECTED) v2 → v2 ≡ x.selected → t3 ≡ set t2 (atom_place a ISOTOPE) v3 → v3 ≡ x.isotope → t4 ≡ set t3 (atom_place a HYDROGENS) v4 → v4 ≡ x.hydrogens → t5 ≡ set t4 (atom_place a CHARGE) v5 → v5 ≡ x.charge → t6 ≡ set t5 (atom_place a EXTENSION) v6 → v6 ≡ x.extension → t7 ≡ set t6 (atom_place a MARK) v7 → v7 ≡ x.mark → t7 ≡ with_atom t a x
unfolding with_atom
put-atom-law t a x e1 f1 e2 f2 e3 f3 e4 f4 e5 f5 e6 f6 e7 f7 = simp (e7, e6, e5, e4, e3, e2, e1, f1, f2, f3, f4, f5, f6, f7) (simp (add-zero, towards_suc))

pub put-bond-law :
    {t1 t2 t3 : List ℤ} {v1 v2 v3 : ℤ} (t : List ℤ) (b : ℕ) (x : Bond) → t1 ≡ set t (bond_place b FIRST) v1 → v1 ≡ x.first → t2 ≡ set t1 (bond_place b SECOND) v2 → v2 ≡ x.second → t3 ≡ set t2 (bond_place b KIND) v3 → v3 ≡ x.kind → t3 ≡ with_bond t b x
unfolding with_bond
put-bond-law t b x e1 f1 e2 f2 e3 f3 = simp (e3, e2, e1, f1, f2, f3) (simp (add-zero, towards_suc))

-- ---- an atom row that was written is there, every other cell is as it was, and so is the length
module _ (t : List ℤ) (a : ℕ) (x : Atom) where
  pub with-atom-length : length (with_atom t a x) ≡ length t
  unfolding with_atom
  with-atom-length = length-sets t (atom_cells * a) (cells_of x)

  pub with-atom-other : (i : ℕ) → (i < atom_cells * a) ⊎ (atom_cells * a + atom_cells ≤ i) → get_or (with_atom t a x) i (pos 0) ≡ get_or t i (pos 0)
  unfolding with_atom
  with-atom-other i h = ⊎_elim (sets-before (pos 0) (cells_of x) t (atom_cells * a) i) (sets-after (pos 0) (cells_of x) t (atom_cells * a) i) h

  pub with-atom-field : atom_cells * a + atom_cells ≤ length t → (f : ℕ) → f < atom_cells → atom_cell (with_atom t a x) a f ≡ get_or (cells_of x) f (pos 0)
  unfolding with_atom
  with-atom-field room f h = sets-in (pos 0) (cells_of x) t (atom_cells * a) f h room

  pub with-atom-row : atom_cells * a + atom_cells ≤ length t → atom_row (with_atom t a x) a ≡ x
  with-atom-row room =
      let at : (f : ℕ) → f < atom_cells → atom_cell (with_atom t a x) a f ≡ get_or (cells_of x) f (pos 0) = with-atom-field room in
      rw (at ELEMENT (omega arith), at SELECTED (omega arith), at ISOTOPE (omega arith), at HYDROGENS (omega arith), at CHARGE (omega arith), at EXTENSION (omega arith), at MARK (omega arith))

-- a row that is written twice is the row that was written last
pub with-atom-twice : (t : List ℤ) (a : ℕ) (x y : Atom) → with_atom (with_atom t a x) a y ≡ with_atom t a y
unfolding with_atom
with-atom-twice t a x y = sets-again (cells_of x) (cells_of y) t (atom_cells * a) refl

-- a row of equal cells is the same row
pub same-atom-row : (t u : List ℤ) (a : ℕ) → ((f : ℕ) → f < atom_cells → atom_cell t a f ≡ atom_cell u a f) → atom_row t a ≡ atom_row u a
same-atom-row t u a h =
    rw (h ELEMENT (omega arith), h SELECTED (omega arith), h ISOTOPE (omega arith), h HYDROGENS (omega arith), h CHARGE (omega arith), h EXTENSION (omega arith), h MARK (omega arith))

-- ---- a bond row that was written is there, every other cell is as it was, and so is the length
module _ (t : List ℤ) (b : ℕ) (x : Bond) where
  pub with-bond-length : length (with_bond t b x) ≡ length t
  unfolding with_bond
  with-bond-length = length-sets t (bond_cells * b) (bond_cells_of x)

  pub with-bond-other : (i : ℕ) → (i < bond_cells * b) ⊎ (bond_cells * b + bond_cells ≤ i) → get_or (with_bond t b x) i (pos 0) ≡ get_or t i (pos 0)
  unfolding with_bond
  with-bond-other i h = ⊎_elim (sets-before (pos 0) (bond_cells_of x) t (bond_cells * b) i) (sets-after (pos 0) (bond_cells_of x) t (bond_cells * b) i) h

  pub with-bond-field : bond_cells * b + bond_cells ≤ length t → (f : ℕ) → f < bond_cells → bond_cell (with_bond t b x) b f ≡ get_or (bond_cells_of x) f (pos 0)
  unfolding with_bond
  with-bond-field room f h = sets-in (pos 0) (bond_cells_of x) t (bond_cells * b) f h room

  pub with-bond-row : bond_cells * b + bond_cells ≤ length t → bond_row (with_bond t b x) b ≡ x
  with-bond-row room =
      let at : (f : ℕ) → f < bond_cells → bond_cell (with_bond t b x) b f ≡ get_or (bond_cells_of x) f (pos 0) = with-bond-field room in
      rw (at FIRST (omega arith), at SECOND (omega arith), at KIND (omega arith))

pub same-bond-row : (t u : List ℤ) (b : ℕ) → ((f : ℕ) → f < bond_cells → bond_cell t b f ≡ bond_cell u b f) → bond_row t b ≡ bond_row u b
same-bond-row t u b h = rw (h FIRST (omega arith), h SECOND (omega arith), h KIND (omega arith))
