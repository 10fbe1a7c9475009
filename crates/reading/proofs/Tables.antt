-- Tables stay valid so far when an atom is added or described, and when a bond is added. Assumes nothing.
use Prim.Native.Nat.{ℕ, ◌+◌, ◌*◌, ◌≤◌, ◌<◌}
use native.Mathlib.Omega.{arith}
use native.Mathlib.Decide.{ℕ_discrete, dec_lt}
use mathlib.Core.Path.{◌≡◌, sym, ap, subst, ◌∙◌}
use mathlib.Core.Bool.{true}
use mathlib.Core.Logic.{◌⊎◌, inl, inr}
use mathlib.Core.List.{List}
use lib.ListN.{length, get_or}
use lib.IntN.{ℤ, pos}
use lib.Signed.{le_z}
use borrow.Author.Tests.{le-leb}
use Rattle.kinds.specs.Kind.{elided, max_kind}
use Rattle.table.specs.declared.Atom.{Atom}
use Rattle.table.specs.declared.Bond.{Bond}
use Rattle.table.specs.Limits.{max_atoms, max_bonds, atom_cells, bond_cells}
use Rattle.table.specs.Cells.{number, in_range, atom_place, bond_place, end1, end2}
use Rattle.table.specs.Rows.{atom_row, bond_row, no_atom, with_atom, with_bond}
use Rattle.table.specs.Valid.{atom_ok, atom_row_ok}
use Rattle.reading.specs.Memory as memory
use Rattle.reading.proofs.Sane.{BondRow, Tables}
use Rattle.table.proofs.Rows.{with-atom-length, with-atom-other, with-atom-row, same-atom-row, with-bond-length, with-bond-other, with-bond-row, same-bond-row}
use Rattle.table.proofs.Valid.{range-of}
use Rattle.reading.proofs.Rows.{row_ok, atom-ok-row}

-- ---- atoms

zero_row : (t : List ℤ) (a : ℕ) → ((k : ℕ) → atom_cells * a ≤ k → get_or t k (pos 0) ≡ pos 0) → atom_ok t a ≡ true
unfolding atom_row_ok in_range number
zero_row t a h =
    let e : atom_row t a ≡ no_atom = rw (h (atom_cells * a + 0) (omega arith), h (atom_cells * a + 1) (omega arith), h (atom_cells * a + 2) (omega arith), h (atom_cells * a + 3) (omega arith), h (atom_cells * a + 4) (omega arith), h (atom_cells * a + 5) (omega arith), h (atom_cells * a + 6) (omega arith)) in
    atom-ok-row t a ∙ ap row_ok e

module _ {p q n m : ℕ} {atoms bonds : List ℤ} (w : Tables p q n m atoms bonds) where
  -- one atom more, whose row is still 0
  pub atom-added : n < max_atoms → Tables p q (n + 1) m atoms bonds
  atom-added h =
      record {
        atoms_few = omega arith;
        bonds_few = w.bonds_few;
        atom-length = w.atom-length;
        bond-length = w.bond-length;
        atom-room = w.atom-room;
        bond-room = w.bond-room;
        atom_rows = rows;
        bond_rows = λ b l. let r = w.bond_rows b l in record { kind = r.kind; natural = r.natural; order = r.order; second = omega arith };
        apart = w.apart;
        atoms-clear = λ k l. w.atoms-clear k (omega arith);
        bonds-clear = w.bonds-clear;
      }
    where
      rows : (a : ℕ) → a < n + 1 → atom_ok atoms a ≡ true
      rows a l = split (dec_lt a n)
        where
          split : Dec (a < n) → atom_ok atoms a ≡ true
          split (yes g) = w.atom_rows a g
          split (no g) = zero_row atoms a (λ k s. w.atoms-clear k (omega arith))

  -- the row of an atom that was added
  pub atom-described : (a : ℕ) (x : Atom) → a < n → row_ok x ≡ true → Tables p q n m (with_atom atoms a x) bonds
  atom-described a x h ok =
      record {
        atoms_few = w.atoms_few;
        bonds_few = w.bonds_few;
        atom-length = with-atom-length atoms a x ∙ w.atom-length;
        bond-length = w.bond-length;
        atom-room = w.atom-room;
        bond-room = w.bond-room;
        atom_rows = rows;
        bond_rows = w.bond_rows;
        apart = w.apart;
        atoms-clear = λ k l. with-atom-other atoms a x k (inr (omega arith)) ∙ w.atoms-clear k l;
        bonds-clear = w.bonds-clear;
      }
    where
      room : atom_cells * a + atom_cells ≤ length atoms
      room = omega (arith, w.atom-length, w.atom-room, w.atoms_few)

      rows : (c : ℕ) → c < n → atom_ok (with_atom atoms a x) c ≡ true
      rows c l = split (ℕ_discrete c a)
        where
          other : (c ≡ a → ⊥) → (k : ℕ) → atom_cells * c ≤ k → k < atom_cells * c + atom_cells → (k < atom_cells * a) ⊎ (atom_cells * a + atom_cells ≤ k)
          other g k s u = side (dec_lt c a)
            where
              side : Dec (c < a) → (k < atom_cells * a) ⊎ (atom_cells * a + atom_cells ≤ k)
              side (yes v) = inl (omega arith)
              side (no v) = let d : a < c = omega arith in inr (omega arith)

          split : Dec (c ≡ a) → atom_ok (with_atom atoms a x) c ≡ true
          split (yes e) = rw e (atom-ok-row (with_atom atoms a x) a ∙ ap row_ok (with-atom-row atoms a x room) ∙ ok)
          split (no g) =
              atom-ok-row (with_atom atoms a x) c
              ∙ ap row_ok (same-atom-row (with_atom atoms a x) atoms c (λ f h. with-atom-other atoms a x (atom_place c f) (other g (atom_place c f) (omega arith) (omega arith))))
              ∙ sym (atom-ok-row atoms c)
              ∙ w.atom_rows c l

-- ---- bonds

-- whether a bond's row is valid is told by the row
record RowFine (x : Bond) (n : ℕ) : Type 0 where
  pub kind : in_range x.kind (pos elided) (pos max_kind) ≡ true
  pub natural : le_z (pos 0) x.first ≡ true
  pub order : number x.first < number x.second
  pub second : number x.second < n

of_row : {t : List ℤ} {n b : ℕ} → RowFine (bond_row t b) n → BondRow t n b
of_row r = record { kind = r.kind; natural = r.natural; order = r.order; second = r.second }

to_row : {t : List ℤ} {n b : ℕ} → BondRow t n b → RowFine (bond_row t b) n
to_row r = record { kind = r.kind; natural = r.natural; order = r.order; second = r.second }

new_row : {n u h k : ℕ} → u < h → h < n → k ≤ max_kind → RowFine (memory.new_bond u h k) n
unfolding in_range number
new_row {u = u} {k = k} a b c = record { kind = range-of k max_kind c; natural = le-leb 0 u (omega arith); order = a; second = b }

module _ {p q n m : ℕ} {atoms bonds : List ℤ} (w : Tables p q n m atoms bonds) where
  -- a bond more, between two atoms that no bond joins yet
  pub bond-added : (u h k : ℕ) → m < max_bonds → u < h → h < n → k ≤ max_kind
      → ((j : ℕ) → j < m → end1 bonds j ≡ u → end2 bonds j ≡ h → ⊥)
      → Tables p q n (m + 1) atoms (with_bond bonds m (memory.new_bond u h k))
  unfolding number
  bond-added u h k few uh hn k3 fresh =
      record {
        atoms_few = w.atoms_few;
        bonds_few = omega arith;
        atom-length = w.atom-length;
        bond-length = with-bond-length bonds m x ∙ w.bond-length;
        atom-room = w.atom-room;
        bond-room = w.bond-room;
        atom_rows = w.atom_rows;
        bond_rows = rows;
        apart = apart;
        atoms-clear = w.atoms-clear;
        bonds-clear = λ c l. with-bond-other bonds m x c (inr (omega arith)) ∙ w.bonds-clear c (omega arith);
      }
    where
      x : Bond
      x = memory.new_bond u h k

      room : bond_cells * m + bond_cells ≤ length bonds
      room = omega (arith, w.bond-length, w.bond-room)

      t : List ℤ
      t = with_bond bonds m x

      old : (b : ℕ) → b < m → bond_row t b ≡ bond_row bonds b
      old b l = same-bond-row t bonds b (λ f h. with-bond-other bonds m x (bond_place b f) (inl (omega arith)))

      new : bond_row t m ≡ x
      new = with-bond-row bonds m x room

      rows : (b : ℕ) → b < m + 1 → BondRow t n b
      rows b l = split (dec_lt b m)
        where
          split : Dec (b < m) → BondRow t n b
          split (yes g) = of_row (subst (λ y. RowFine y n) (sym (old b g)) (to_row (w.bond_rows b g)))
          split (no g) = let e : m ≡ b = omega arith in subst (λ c. BondRow t n c) e (of_row (subst (λ y. RowFine y n) (sym new) (new_row uh hn k3)))

      first : (b : ℕ) {y : Bond} → bond_row t b ≡ y → end1 t b ≡ number y.first
      first b e = ap (λ (y : Bond). number y.first) e

      second : (b : ℕ) {y : Bond} → bond_row t b ≡ y → end2 t b ≡ number y.second
      second b e = ap (λ (y : Bond). number y.second) e

      apart : (i j : ℕ) → j < i → i < m + 1 → end1 t i ≡ end1 t j → end2 t i ≡ end2 t j → ⊥
      apart i j l s e f = split (dec_lt i m)
        where
          jm : j < m
          jm = omega arith

          split : Dec (i < m) → ⊥
          split (yes g) = w.apart i j l g (sym (first i (old i g)) ∙ e ∙ first j (old j jm)) (sym (second i (old i g)) ∙ f ∙ second j (old j jm))
          split (no g) =
              let im : i ≡ m = omega arith in
              let e' : end1 t m ≡ end1 t j = rw im at e in
              let f' : end2 t m ≡ end2 t j = rw im at f in
              fresh j jm (sym (first j (old j jm)) ∙ sym e' ∙ first m new) (sym (second j (old j jm)) ∙ sym f' ∙ second m new)
