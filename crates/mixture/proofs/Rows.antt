-- Rows written in two tables, in the second at a place moved up: the other rows stay, and the new ones agree. Assumes nothing.
use Prim.Native.Nat.{ℕ, zero, suc, ◌+◌, ◌*◌, ◌≤◌, ◌<◌}
use native.Mathlib.Omega.{arith}
use native.Mathlib.Decide.{ℕ_discrete, dec_lt}
use mathlib.Core.Path.{◌≡◌, refl, sym, ap, ◌∙◌}
use mathlib.Core.Logic.{◌⊎◌, inl, inr}
use mathlib.Core.List.{List, [], ◌∷◌, map}
use lib.ListN.{length, get_or, set, get_or-eq_default, length-set}
use lib.Seq.{get_or-set_same}
use lib.IntN.{ℤ, pos}
use Rattle.table.specs.declared.Atom.{Atom}
use Rattle.table.specs.declared.Bond.{Bond}
use Rattle.table.specs.Limits.{atom_cells, bond_cells}
use Rattle.table.specs.Cells.{number, atom_place, bond_place, end1, end2}
use Rattle.table.specs.Rows.{atom_row, bond_row, no_atom, with_atom, with_bond}
use Rattle.table.proofs.Rows.{with-atom-other, with-atom-row, same-atom-row, with-bond-other, with-bond-row, same-bond-row}
use Rattle.mixture_rows.specs.Beside.{raised_row, BondsBeside}

-- one of two numbers is the smaller
apart : (a c : ℕ) → (c ≡ a → ⊥) → (c < a) ⊎ (a < c)
apart a c n = split (dec_lt c a)
  where
    split : Dec (c < a) → (c < a) ⊎ (a < c)
    split (yes l) = inl l
    split (no l) = inr (omega arith)

-- ---- atom rows
clear-row : (t : List ℤ) (a : ℕ) → ((k : ℕ) → atom_cells * a ≤ k → get_or t k (pos 0) ≡ pos 0) → atom_row t a ≡ no_atom
clear-row t a h = same-atom-row t [] a (λ f l. h (atom_place a f) (omega arith))

-- two rows of zeros
pub clear-rows : (t u : List ℤ) (a c : ℕ) → ((k : ℕ) → atom_cells * a ≤ k → get_or t k (pos 0) ≡ pos 0) → ((k : ℕ) → atom_cells * c ≤ k → get_or u k (pos 0) ≡ pos 0) → atom_row u c ≡ atom_row t a
clear-rows t u a c h k = clear-row u c k ∙ sym (clear-row t a h)

other-atom : (t : List ℤ) (a : ℕ) (x : Atom) (c : ℕ) → (c ≡ a → ⊥) → atom_row (with_atom t a x) c ≡ atom_row t c
other-atom t a x c n = split (apart a c n)
  where
    split : (c < a) ⊎ (a < c) → atom_row (with_atom t a x) c ≡ atom_row t c
    split (inl l) = same-atom-row (with_atom t a x) t c (λ f h. with-atom-other t a x (atom_place c f) (inl (omega arith)))
    split (inr l) = same-atom-row (with_atom t a x) t c (λ f h. with-atom-other t a x (atom_place c f) (inr (omega arith)))

-- the row of the atom a is written, and that of n + a
pub atoms-written : (n : ℕ) (t u : List ℤ) (a e : ℕ) (x : Atom) → e ≡ n + a → atom_cells * a + atom_cells ≤ length t → atom_cells * e + atom_cells ≤ length u → (c : ℕ) → atom_row u (n + c) ≡ atom_row t c
    → atom_row (with_atom u e x) (n + c) ≡ atom_row (with_atom t a x) c
atoms-written n t u a e x q r s c h = split (ℕ_discrete c a)
  where
    split : Dec (c ≡ a) → atom_row (with_atom u e x) (n + c) ≡ atom_row (with_atom t a x) c
    split (yes f) =
        let g : n + c ≡ e = omega arith in
        ap (atom_row (with_atom u e x)) g ∙ with-atom-row u e x s ∙ sym (with-atom-row t a x r) ∙ ap (atom_row (with_atom t a x)) (sym f)
    split (no f) = other-atom u e x (n + c) (λ g. f (omega arith)) ∙ h ∙ sym (other-atom t a x c f)

-- ---- bond rows
pub other-bond : (t : List ℤ) (b : ℕ) (x : Bond) (c : ℕ) → (c ≡ b → ⊥) → bond_row (with_bond t b x) c ≡ bond_row t c
other-bond t b x c n = split (apart b c n)
  where
    split : (c < b) ⊎ (b < c) → bond_row (with_bond t b x) c ≡ bond_row t c
    split (inl l) = same-bond-row (with_bond t b x) t c (λ f h. with-bond-other t b x (bond_place c f) (inl (omega arith)))
    split (inr l) = same-bond-row (with_bond t b x) t c (λ f h. with-bond-other t b x (bond_place c f) (inr (omega arith)))

-- a bond more in both tables, in the second with its ends moved up
pub bonds-written : {n m k : ℕ} {t u : List ℤ} (w : BondsBeside n m k u t u) (e : ℕ) (x y : Bond) → e ≡ m + k → y ≡ raised_row n x → bond_cells * k + bond_cells ≤ length t → bond_cells * e + bond_cells ≤ length u
    → BondsBeside n m (k + 1) (with_bond u e y) (with_bond t k x) (with_bond u e y)
bonds-written {n} {m} {k} {t} {u} w e x y q z r s = record { inside = inside; first_bonds = λ b l. refl; second_bonds = second }
  where
    inside : (b : ℕ) → b < m → (end1 (with_bond u e y) b < n) × (end2 (with_bond u e y) b < n)
    inside b l =
        let o : bond_row (with_bond u e y) b ≡ bond_row u b = other-bond u e y b (λ f. omega arith) in
        let o1 : end1 (with_bond u e y) b ≡ end1 u b = ap (λ (v : Bond). number v.first) o in
        let o2 : end2 (with_bond u e y) b ≡ end2 u b = ap (λ (v : Bond). number v.second) o in
        let i = w.inside b l in
        (omega arith, omega arith)

    second : (b : ℕ) → b < k + 1 → bond_row (with_bond u e y) (m + b) ≡ raised_row n (bond_row (with_bond t k x) b)
    second b l = split (ℕ_discrete b k)
      where
        split : Dec (b ≡ k) → bond_row (with_bond u e y) (m + b) ≡ raised_row n (bond_row (with_bond t k x) b)
        split (yes f) =
            let g : m + b ≡ e = omega arith in
            ap (bond_row (with_bond u e y)) g ∙ with-bond-row u e y s ∙ z ∙ ap (raised_row n) (sym (with-bond-row t k x r) ∙ ap (bond_row (with_bond t k x)) (sym f))
        split (no f) = other-bond u e y (m + b) (λ g. f (omega arith)) ∙ w.second_bonds b (omega arith) ∙ ap (raised_row n) (sym (other-bond t k x b f))

-- ---- lists of numbers
-- a cell that is written alike in lists of one length
pub set-alike : (l k : List ℕ) (r x : ℕ) → length l ≡ length k → get_or (set l r x) r 0 ≡ get_or (set k r x) r 0
set-alike l k r x e = split (dec_lt r (length l))
  where
    split : Dec (r < length l) → get_or (set l r x) r 0 ≡ get_or (set k r x) r 0
    split (yes h) = get_or-set_same l r x 0 h ∙ sym (get_or-set_same k r x 0 (omega arith))
    split (no h) =
        get_or-eq_default (set l r x) 0 (rw length-set (omega arith)) ∙ sym (get_or-eq_default (set k r x) 0 (rw length-set (omega arith)))

pub map-set : (f : ℕ → ℕ) (l : List ℕ) (i x : ℕ) → set (map f l) i (f x) ≡ map f (set l i x)
map-set f [] i x = refl
map-set f (y ∷ l) zero x = refl
map-set f (y ∷ l) (suc i) x = ap (λ (k : List ℕ). f y ∷ k) (map-set f l i x)
