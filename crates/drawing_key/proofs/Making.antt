-- The numbers that keys are made of fit; keys in place of what they are made from. Assumes nothing.
use mathlib.Core.Path.{◌≡◌, refl, ap, ◌∙◌}
use mathlib.Core.Bool.{Bool, true, cond}
use mathlib.Core.List.{List}
use Prim.Native.Nat.{ℕ, suc, ◌+◌, ◌-◌, ◌*◌, ◌<◌, ◌≤◌}
use native.Mathlib.Omega.{arith}
use lib.IntN.{ℤ, pos, negsuc, ◌+ℤ◌}
use lib.Dec.{leb}
use lib.ListN.{get_or, set}
use lib.Seq.{get_or-set_other}
use lib.Signed.{le_z}
use borrow.Author.Tests.{leb-true, le-ltb}
use mir.Syntax.{w32}
use mir.Val.{SFits, to_z, of_z}
use mir.Facts.{to_z-of_z}
use Rattle.loops.proofs.Loops.{and_left, and_right, Edited, fills, edited-start, filled-step}
use Rattle.table.specs.Limits.{ELEMENT, ISOTOPE, HYDROGENS, CHARGE}
use Rattle.table.specs.Cells.{number, in_range, atom_cell, element, hydrogens}
use Rattle.table.specs.Valid.{atom_ok}
use Rattle.table.proofs.Valid.{atom-fine, range-high}
use Rattle.drawing_key.specs.Key.{cells_number}

-- the cells of a valid row that count
pub record Digits (atoms : List ℤ) (a : ℕ) : Type 0 where
  pub element : element atoms a ≤ 118
  pub isotope : number (atom_cell atoms a ISOTOPE) ≤ 999
  pub hydrogens : hydrogens atoms a ≤ 9
  pub charge : in_range (atom_cell atoms a CHARGE) (negsuc 8) (pos 9) ≡ true

pub digits : (atoms : List ℤ) (a : ℕ) → atom_ok atoms a ≡ true → Digits atoms a
digits atoms a h =
    let f = atom-fine atoms a h in
    record {
      element = range-high (atom_cell atoms a ELEMENT) 118 f.element;
      isotope = range-high (atom_cell atoms a ISOTOPE) 999 f.isotope;
      hydrogens = range-high (atom_cell atoms a HYDROGENS) 9 f.hydrogens;
      charge = f.charge;
    }

-- a charge, counted from -9
pub charge-up : (z : ℤ) → in_range z (negsuc 8) (pos 9) ≡ true → (n : ℕ) × (n ≤ 18) × (z +ℤ pos 9 ≡ pos n)
unfolding in_range
charge-up (pos k) h = (k + 9, omega (arith, leb-true k 9 (and_right (le_z (negsuc 8) (pos k)) (leb k 9) h)), refl)
charge-up (negsuc k) h =
    let u = leb-true k 8 (and_left (leb k 8) (le_z (negsuc k) (pos 9)) h) in
    (8 - k, omega arith, ap (λ (t : Bool). cond t (negsuc (suc k - suc 9)) (pos (9 - suc k))) (le-ltb 9 (suc k) (omega arith)) ∙ ap pos (omega arith))

module _ {r z : ℤ} (f : SFits w32 r) (e : r ≡ z) (h : in_range z (negsuc 8) (pos 9) ≡ true) where
  pub charge-fits : SFits w32 (to_z w32 (of_z w32 r) +ℤ pos 9)
  charge-fits = let n = charge-up z h in rw (to_z-of_z f, e, n.2) (record { sfits = omega (arith, n.1) })

  pub charge-number : {k : ℕ} → k ≡ number (to_z w32 (of_z w32 (to_z w32 (of_z w32 r) +ℤ pos 9))) → k ≡ number (z +ℤ pos 9)
  charge-number q = q ∙ ap number (to_z-of_z charge-fits ∙ rw (to_z-of_z f, e))

  pub charge-low : number (z +ℤ pos 9) ≤ 18
  unfolding number
  charge-low = let n = charge-up z h in rw n.2 n.1

-- the cells, one by one
pub cells-number : (atoms : List ℤ) (a : ℕ) {e i h c : ℕ} → e ≡ element atoms a → i ≡ number (atom_cell atoms a ISOTOPE) → h ≡ hydrogens atoms a → c ≡ number (atom_cell atoms a CHARGE +ℤ pos 9) → ((e * 1000 + i) * 10 + h) * 19 + c ≡ cells_number atoms a
unfolding cells_number
cells-number atoms a p q r s = λ j. ((p j * 1000 + q j) * 10 + r j) * 19 + s j

-- a loop that puts f in place of what it is made from stands at i: the rest is as it was
pub record Replacing (f : ℕ → ℕ) (l₀ : List ℕ) (n i : ℕ) (l : List ℕ) : Type 0 where
  pub edited : Edited (fills f) l₀ n i l
  pub rest : (j : ℕ) → i ≤ j → get_or l j 0 ≡ get_or l₀ j 0

pub replacing-start : {f : ℕ → ℕ} {l : List ℕ} {n : ℕ} → Replacing f l n 0 l
replacing-start = record { edited = edited-start; rest = λ j u. refl }

pub replacing-step : {f : ℕ → ℕ} {l₀ l : List ℕ} {n i : ℕ} → Replacing f l₀ n i l → (v : ℕ) → i < n → v ≡ f i → Replacing f l₀ n (i + 1) (set l i v)
replacing-step {l = l} {i = i} w v h e =
    record {
      edited = filled-step w.edited v h e;
      rest = λ j u. get_or-set_other l i j v 0 (λ q. omega arith) ∙ w.rest j (omega arith);
    }
