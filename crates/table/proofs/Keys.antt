-- How a repeat among the bonds shows in their cells, and that there is none where their keys ascend. Assumes nothing.
use Prim.Native.Nat.{ℕ, ◌+◌, ◌<◌, ◌≤◌}
use native.Mathlib.Omega.{arith}
use mathlib.Core.Path.{◌≡◌, refl, sym, ap, ◌∙◌}
use mathlib.Core.Bool.{Bool, true, false, ◌&&◌, not}
use mathlib.Core.List.{List}
use lib.ListN.{length, get_or, get_or-eq_default}
use lib.IntN.{ℤ, pos, negsuc}
use lib.Signed.{le_z}
use lib.Dec.{eqb, ltb}
use mir.Syntax.{w32}
use mir.Val.{of_z}
use borrow.Author.Count.{below_more}
use borrow.Author.Tests.{eq-eqb, ne_eqb, eqb-true, ltb-true, ltb-false, not-true, not-false}
use Rattle.kinds.specs.Kind.{elided, max_kind}
use Rattle.loops.specs.Loop.{each}
use Rattle.loops.proofs.Loops.{and_left, and_right, each_all}
use Rattle.table.specs.Limits.{FIRST, SECOND}
use Rattle.table.specs.Cells.{number, in_range, bond_place, bond_cell, end1, end2}
use Rattle.table.specs.Valid.{same_ends, fresh, distinct, bond_ok, bond_row_ok}
use Rattle.table.specs.Keys.{BondEnds, ends_key}
use Rattle.table.proofs.Valid.{bond-fine}

-- what did not pass claims nothing
pub never : {A : Type 0} → ◌≡◌ {A = Bool} false true → A
never e = absurd (let z : ◌≡◌ {A = ℕ} 0 1 = cc in omega arith)

-- a cell past the end is 0
cell-inside : (t : List ℤ) (i : ℕ) → 0 < number (get_or t i (pos 0)) → i < length t
unfolding number
cell-inside t i h = split (ltb i (length t)) refl
  where
    split : (b : Bool) → ltb i (length t) ≡ b → i < length t
    split true e = ltb-true i (length t) e
    split false e =
        let z : number (get_or t i (pos 0)) ≡ 0 = ap number (get_or-eq_default t (pos 0) (ltb-false i (length t) e)) in
        absurd (omega arith)

natural : (z : ℤ) → le_z (pos 0) z ≡ true → z ≡ pos (number z)
unfolding number
natural (pos n) e = refl
natural (negsuc n) e = never e

positive : (z : ℤ) → 0 < number z → z ≡ pos (number z)
unfolding number
positive (pos n) h = refl
positive (negsuc n) h = absurd (omega arith)

-- a valid bond's ends
pub bond-ends : (t : List ℤ) (n b : ℕ) → bond_ok t n b ≡ true → BondEnds t b
bond-ends t n b e =
    let f = bond-fine t n b e in
    record {
      inside = cell-inside t (bond_place b SECOND) (omega (arith, f.order));
      first = natural (bond_cell t b FIRST) f.natural;
      second = positive (bond_cell t b SECOND) (omega (arith, f.order));
    }

-- such bonds join the same two atoms exactly if their cells have the same bits
module _ {t : List ℤ} {i j : ℕ} (p : BondEnds t i) (q : BondEnds t j) where
  same-cells : (eqb (of_z w32 (bond_cell t i FIRST)) (of_z w32 (bond_cell t j FIRST)) && eqb (of_z w32 (bond_cell t i SECOND)) (of_z w32 (bond_cell t j SECOND))) ≡ same_ends t i j
  unfolding same_ends
  same-cells =
      let a = ap (of_z w32) p.first in
      let b = ap (of_z w32) p.second in
      let c = ap (of_z w32) q.first in
      let d = ap (of_z w32) q.second in
      cc

  pub both-same : of_z w32 (bond_cell t i FIRST) ≡ of_z w32 (bond_cell t j FIRST) → eqb (of_z w32 (bond_cell t i SECOND)) (of_z w32 (bond_cell t j SECOND)) ≡ true → same_ends t i j ≡ true
  both-same e f = sym same-cells ∙ rw (eq-eqb _ _ e, f)

  pub first-differs : (of_z w32 (bond_cell t i FIRST) ≡ of_z w32 (bond_cell t j FIRST) → ⊥) → same_ends t i j ≡ false
  first-differs h = sym same-cells ∙ rw (ne_eqb _ _ h)

  pub second-differs : of_z w32 (bond_cell t i FIRST) ≡ of_z w32 (bond_cell t j FIRST) → eqb (of_z w32 (bond_cell t i SECOND)) (of_z w32 (bond_cell t j SECOND)) ≡ false → same_ends t i j ≡ false
  second-differs e f = sym same-cells ∙ rw (eq-eqb _ _ e, f)

-- bonds with different keys do not join the same two atoms
key_apart : (t : List ℤ) (k j : ℕ) → ends_key t j < ends_key t k → not (same_ends t k j) ≡ true
unfolding same_ends
key_apart t k j l = split (eqb (end1 t k) (end1 t j)) refl (eqb (end2 t k) (end2 t j)) refl
  where
    split : (p : Bool) → eqb (end1 t k) (end1 t j) ≡ p → (q : Bool) → eqb (end2 t k) (end2 t j) ≡ q → not (p && q) ≡ true
    split true e true f = absurd (omega (arith, eqb-true (end1 t k) (end1 t j) e, eqb-true (end2 t k) (end2 t j) f))
    split true e false f = refl
    split false e q f = refl

-- the first i bonds of m are valid with n atoms, and their keys ascend, up to the last
pub record Sorted (t : List ℤ) (n m i last : ℕ) : Type 0 where
  pub within : i ≤ m
  pub fine : (j : ℕ) → j < i → bond_ok t n j ≡ true
  pub below : (j : ℕ) → j < i → ends_key t j ≤ last
  pub apart : (k : ℕ) → k < i → (j : ℕ) → j < k → ends_key t j < ends_key t k

pub sorted-start : {t : List ℤ} {n m : ℕ} → Sorted t n m 0 0
sorted-start = record { within = omega arith; fine = λ j l. absurd (omega arith); below = λ j l. absurd (omega arith); apart = λ k l. absurd (omega arith) }

module _ {t : List ℤ} {n m i last : ℕ} (a : Sorted t n m i last) where
  pub sorted-step : (key : ℕ) → i < m → last < key → (0 < key → (bond_ok t n i ≡ true) × (key ≡ ends_key t i)) → Sorted t n m (i + 1) key
  sorted-step key h l f =
      let k = f (omega arith) in
      let e = k.1 in
      record {
        within = omega arith;
        fine = below_more (λ j. bond_ok t n j ≡ true) i a.fine k.0;
        below = below_more (λ j. ends_key t j ≤ key) i (λ j r. omega (arith, a.below j r)) (omega arith);
        apart = below_more (λ k. (j : ℕ) → j < k → ends_key t j < ends_key t k) i a.apart (λ j r. omega (arith, a.below j r));
      }

  pub sorted-rows : m ≤ i → each (bond_ok t n) 0 m ≡ true
  sorted-rows h = each_all (bond_ok t n) m λ k l. a.fine k (omega arith)

  pub sorted_apart : m ≤ i → distinct t m ≡ true
  unfolding distinct fresh
  sorted_apart h = each_all (fresh t) m λ k l. each_all (λ j. not (same_ends t k j)) k λ j r. key_apart t k j (a.apart k (omega arith) j r)

-- the ends in valid cells are small
pub short_row : (e f k : ℤ) (n : ℕ) → n < 65536 → bond_row_ok e f k n ≡ true → (number e < 65536) × (number f < 65536)
unfolding bond_row_ok
short_row e f k n h ok =
    let a = in_range k (pos elided) (pos max_kind) in
    let s = le_z (pos 0) e in
    let o = ltb (number e) (number f) in
    let q = ltb-true (number f) n (and_right (a && (s && o)) (ltb (number f) n) ok) in
    let p = ltb-true (number e) (number f) (and_right s o (and_right a (s && o) (and_left (a && (s && o)) (ltb (number f) n) ok))) in
    (omega arith, omega arith)

-- a call told a test, and it was gone by
pub held : {r b : Bool} → r ≡ b → not r ≡ false → b ≡ true
held {r} e h = sym e ∙ not-false r h

pub failed : {r b : Bool} → r ≡ b → not r ≡ true → b ≡ false
failed {r} e h = sym e ∙ not-true r h
