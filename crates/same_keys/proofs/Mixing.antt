-- Mixed numbers fit. Assumes nothing.
use mathlib.Core.Path.{◌≡◌, refl}
use mathlib.Core.Bool.{true, false}
use Prim.Native.Nat.{ℕ, ◌+◌, ◌*◌, ◌<◌, ◌≤◌, ◌%◌}
use native.Mathlib.Omega.{arith}
use native.Mathlib.Nat.{mod-lt, mul-le-mul_right}
use mathlib.Core.List.{List}
use lib.Dec.{T}
use lib.IntN.{ℤ, pos, negsuc, nat_abs}
use lib.Signed.{lt_z, non_neg}
use borrow.Author.Tests.{ltb-true}
use Rattle.table.specs.Limits.{ELEMENT, ISOTOPE, HYDROGENS, CHARGE, EXTENSION}
use Rattle.table.specs.Cells.{number, atom_cell}
use Rattle.same_keys.specs.Keys.{prime, mixed, stirred, charge_number, first_key}

pub square-low : (y : ℕ) → y < prime → y * y ≤ prime * prime
square-low y l = omega (arith, mul-le-mul_right {m = y} {n = prime} y (omega arith))

pub mixed-low : (x : ℕ) → mixed x < prime
unfolding mixed
mixed-low x = let y = x % prime in mod-lt (y * y + 1103515245 * y + 12345) {m = prime} (omega arith)

stirred-low : (key x : ℕ) → stirred key x < prime
unfolding stirred
stirred-low key x = mixed-low (key % prime + x % prime)

pub first-key-low : (atoms : List ℤ) (a sum : ℕ) → first_key atoms a sum < prime
unfolding first_key
first-key-low atoms a sum =
    let e = stirred sum (number (atom_cell atoms a ELEMENT)) in
    let i = stirred e (number (atom_cell atoms a ISOTOPE)) in
    let h = stirred i (number (atom_cell atoms a HYDROGENS)) in
    stirred-low (stirred h (charge_number (atom_cell atoms a CHARGE))) (number (atom_cell atoms a EXTENSION))

pub charge-below : (z : ℤ) → lt_z z (pos 0) ≡ true → 99 ≡ charge_number z
charge-below (pos n) e = let h = ltb-true n 0 e in absurd (omega arith)
charge-below (negsuc n) e = refl

pub charge-above : (z : ℤ) → lt_z z (pos 0) ≡ false → T (non_neg z) × (nat_abs z ≡ charge_number z)
charge-above (pos n) e = (tt, refl)
charge-above (negsuc n) e = let w : true ≡ false = e in absurd (let z : ◌≡◌ {A = ℕ} 0 1 = cc in omega arith)

-- five numbers stirred in, one after the other
pub cells-stirred : (atoms : List ℤ) (a sum : ℕ) {e i h k t ne ni nh nt : ℕ} {nc : ℤ} → e ≡ stirred sum ne → ne ≡ number (atom_cell atoms a ELEMENT) → i ≡ stirred e ni → ni ≡ number (atom_cell atoms a ISOTOPE) → h ≡ stirred i nh → nh ≡ number (atom_cell atoms a HYDROGENS)
    → k ≡ stirred h t → t ≡ charge_number nc → nc ≡ atom_cell atoms a CHARGE → nt ≡ number (atom_cell atoms a EXTENSION) → stirred k nt ≡ first_key atoms a sum
unfolding first_key
cells-stirred atoms a sum pe qe pi qi ph qh pk qk rk qt = rw (pk, ph, pi, pe, qe, qi, qh, qk, rk, qt)
