-- What valid tables have, a law for each condition of 01, as facts on numbers. Assumes nothing.
use Prim.Native.Nat.{ℕ, ◌*◌, ◌<◌, ◌≤◌}
use native.Mathlib.Omega.{arith}
use mathlib.Core.Path.{◌≡◌, refl}
use mathlib.Core.Bool.{Bool, true, false, ◌&&◌, not}
use mathlib.Core.List.{List}
use lib.ListN.{length}
use lib.IntN.{ℤ, pos, negsuc}
use lib.Signed.{le_z}
use lib.Dec.{leb, ltb}
use borrow.Author.Tests.{leb-true, ltb-true, le-leb, lt-ltb, not-true}
use Rattle.kinds.specs.Kind.{max_kind}
use Rattle.loops.specs.Loop.{each}
use Rattle.loops.proofs.Loops.{and_left, and_right, each_at}
use Rattle.table.specs.Limits.{max_atoms, max_bonds, atom_cells, bond_cells, HYDROGENS, MARK, FIRST, KIND}
use Rattle.table.specs.Cells.{number, in_range, atom_cell, bond_cell, hydrogens, mark, end1, end2, kind}
use Rattle.table.specs.Valid.{counts_ok, element_ok, isotope_ok, hydrogens_ok, charge_ok, extension_ok, max_mark, mark_ok, selected_ok, kind_ok, same_ends, fresh, distinct, atom_ok, bond_ok, valid, Valid, enough}

-- the test is true exactly if the facts hold
pub facts : (atoms bonds : List ℤ) (n m : ℕ) → valid atoms bonds n m ≡ true → Valid atoms bonds n m
unfolding valid
facts atoms bonds n m h =
    let a = each (atom_ok atoms) 0 n in
    let b = each (bond_ok bonds n) 0 m in
    let d = distinct bonds m in
    let w = counts_ok n m in
    let h2 = and_left (w && a && b) d h in
    let h1 = and_left (w && a) b h2 in
    let h0 = and_left w a h1 in
    record {
      atoms_few = leb-true n max_atoms (and_left (leb n max_atoms) (leb m max_bonds) h0);
      bonds_few = leb-true m max_bonds (and_right (leb n max_atoms) (leb m max_bonds) h0);
      atom_rows = and_right w a h1;
      bond_rows = and_right (w && a) b h2;
      apart = and_right (w && a && b) d h;
    }

pub facts-back : {atoms bonds : List ℤ} {n m : ℕ} → Valid atoms bonds n m → valid atoms bonds n m ≡ true
unfolding valid
facts-back {n = n} {m} v = simp (le-leb n max_atoms v.atoms_few, le-leb m max_bonds v.bonds_few, v.atom_rows, v.bond_rows, v.apart)

-- a cell in a range of numbers that are not negative
pub range-high : (z : ℤ) (b : ℕ) → in_range z (pos 0) (pos b) ≡ true → number z ≤ b
unfolding in_range number
range-high (pos n) b h = leb-true n b (and_right (le_z (pos 0) (pos n)) (le_z (pos n) (pos b)) h)
range-high (negsuc n) b h = omega arith

pub range-pos : (z : ℤ) (b : ℕ) → in_range z (pos 0) (pos b) ≡ true → z ≡ pos (number z)
unfolding in_range number
range-pos (pos n) b h = refl
range-pos (negsuc n) b h = let w : ◌≡◌ {A = Bool} false true = and_left (le_z (pos 0) (negsuc n)) (le_z (negsuc n) (pos b)) h in absurd (let z : ◌≡◌ {A = ℕ} 0 1 = cc in omega arith)

pub range-of : (n b : ℕ) → n ≤ b → in_range (pos n) (pos 0) (pos b) ≡ true
unfolding in_range
range-of n b h = simp (le-leb n b h, le-leb 0 n (omega arith))

-- the conditions of an atom row, each by its test
pub record AtomFine (t : List ℤ) (a : ℕ) : Type 0 where
  pub element : element_ok t a ≡ true
  pub isotope : isotope_ok t a ≡ true
  pub hydrogens : hydrogens_ok t a ≡ true
  pub charge : charge_ok t a ≡ true
  pub extension : extension_ok t a ≡ true
  pub mark : mark_ok t a ≡ true
  pub selected : selected_ok t a ≡ true

pub atom-fine : (t : List ℤ) (a : ℕ) → atom_ok t a ≡ true → AtomFine t a
unfolding atom_ok
atom-fine t a h =
    let e = element_ok t a in
    let i = isotope_ok t a in
    let y = hydrogens_ok t a in
    let c = charge_ok t a in
    let x = extension_ok t a in
    let k = mark_ok t a in
    let h6 = and_left (e && i && y && c && x && k) (selected_ok t a) h in
    let h5 = and_left (e && i && y && c && x) k h6 in
    let h4 = and_left (e && i && y && c) x h5 in
    let h3 = and_left (e && i && y) c h4 in
    let h2 = and_left (e && i) y h3 in
    record {
      element = and_left e i h2;
      isotope = and_right e i h2;
      hydrogens = and_right (e && i) y h3;
      charge = and_right (e && i && y) c h4;
      extension = and_right (e && i && y && c) x h5;
      mark = and_right (e && i && y && c && x) k h6;
      selected = and_right (e && i && y && c && x && k) (selected_ok t a) h;
    }

pub atom-fine-back : {t : List ℤ} {a : ℕ} → AtomFine t a → atom_ok t a ≡ true
unfolding atom_ok
atom-fine-back f = simp (f.element, f.isotope, f.hydrogens, f.charge, f.extension, f.mark, f.selected)

-- the conditions of a bond row, as facts on numbers
pub record BondFine (t : List ℤ) (n b : ℕ) : Type 0 where
  pub kind : kind_ok t b ≡ true
  pub natural : le_z (pos 0) (bond_cell t b FIRST) ≡ true
  pub order : end1 t b < end2 t b
  pub second : end2 t b < n

pub bond-fine : (t : List ℤ) (n b : ℕ) → bond_ok t n b ≡ true → BondFine t n b
unfolding bond_ok
bond-fine t n b h =
    let k = kind_ok t b in
    let s = le_z (pos 0) (bond_cell t b FIRST) in
    let o = ltb (end1 t b) (end2 t b) in
    let h1 = and_left (k && (s && o)) (ltb (end2 t b) n) h in
    let h0 = and_right k (s && o) h1 in
    record {
      kind = and_left k (s && o) h1;
      natural = and_left s o h0;
      order = ltb-true (end1 t b) (end2 t b) (and_right s o h0);
      second = ltb-true (end2 t b) n (and_right (k && (s && o)) (ltb (end2 t b) n) h);
    }

pub bond-fine-back : {t : List ℤ} {n b : ℕ} → BondFine t n b → bond_ok t n b ≡ true
unfolding bond_ok
bond-fine-back {t} {n} {b} f = simp (f.kind, f.natural, lt-ltb (end1 t b) (end2 t b) f.order, lt-ltb (end2 t b) n f.second)

module _ {atoms bonds : List ℤ} {n m : ℕ} (v : Valid atoms bonds n m) where
  pub atom-row : (a : ℕ) → a < n → AtomFine atoms a
  atom-row a l = atom-fine atoms a (each_at (atom_ok atoms) n a v.atom_rows l)

  pub bond-row : (b : ℕ) → b < m → BondFine bonds n b
  bond-row b l = bond-fine bonds n b (each_at (bond_ok bonds n) m b v.bond_rows l)

  pub hydrogens-small : (a : ℕ) → a < n → hydrogens atoms a ≤ 9
  hydrogens-small a l = range-high (atom_cell atoms a HYDROGENS) 9 (atom-row a l).hydrogens

  pub mark-small : (a : ℕ) → a < n → mark atoms a ≤ max_mark
  mark-small a l = range-high (atom_cell atoms a MARK) max_mark (atom-row a l).mark

  pub kind-small : (b : ℕ) → b < m → kind bonds b ≤ max_kind
  kind-small b l = range-high (bond_cell bonds b KIND) max_kind (bond-row b l).kind

  pub second-end : (b : ℕ) → b < m → end2 bonds b < n
  second-end b l = (bond-row b l).second

  pub first-end : (b : ℕ) → b < m → end1 bonds b < n
  first-end b l = let r = bond-row b l in omega arith

  -- two bonds do not join the same two atoms
  pub apart-at : (i j : ℕ) → i < m → j < i → same_ends bonds i j ≡ false
  unfolding distinct fresh
  apart-at i j l h = not-true _ (each_at (λ k. not (same_ends bonds i k)) i j (each_at (fresh bonds) m i v.apart l) h)

-- the tables are long enough
pub record Enough (atoms bonds : List ℤ) : Type 0 where
  pub atoms_room : atom_cells * max_atoms ≤ length atoms
  pub bonds_room : bond_cells * max_bonds ≤ length bonds

pub enough-facts : (atoms bonds : List ℤ) → enough atoms bonds ≡ true → Enough atoms bonds
unfolding enough
enough-facts atoms bonds h =
    let a = leb (atom_cells * max_atoms) (length atoms) in
    let b = leb (bond_cells * max_bonds) (length bonds) in
    record {
      atoms_room = leb-true (atom_cells * max_atoms) (length atoms) (and_left a b h);
      bonds_room = leb-true (bond_cells * max_bonds) (length bonds) (and_right a b h);
    }
