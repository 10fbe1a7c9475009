-- What a bond weighs, and how high a sum of weights can be. Assumes nothing.
use mathlib.Core.Path.{◌≡◌, sym, ap, ◌∙◌}
use Prim.Native.Nat.{ℕ, ◌+◌, ◌*◌, ◌<◌, ◌≤◌, ◌/◌, ◌%◌}
use native.Mathlib.Omega.{arith}
use native.Mathlib.Nat.{mod-lt, mul-le-mul_right, div-lt_iff_lt-mul}
use mathlib.Core.List.{List, ◌++◌}
use lib.ListN.{get_or}
use borrow.Author.Tests.{eq-eqb, ne_eqb}
use Rattle.loops.specs.Loop.{run, up_to}
use Rattle.loops.proofs.Loops.{filled_at}
use Rattle.same_model.specs.Same.{max_same}
use Rattle.same_place.specs.Place.{entry}
use Rattle.same_keys.specs.Keys.{prime, mixed, at, mixed_at}
use Rattle.same_keys.proofs.Spreading.{run_agree}
use Rattle.same_finer.specs.Finer.{weight, weight_cell, times_low, add_weighed, next_key}

pub weight-0 : (x y : ℕ) → y ≡ x % 4 → y ≡ 0 → 0 ≡ weight x
unfolding weight
weight-0 x y q e = let h : x % 4 ≡ 0 = sym q ∙ e in rw h

pub weight-1 : (x y : ℕ) → y ≡ x % 4 → y ≡ 1 → 1 ≡ weight x
unfolding weight
weight-1 x y q e = let h : x % 4 ≡ 1 = sym q ∙ e in rw h

pub weight-2 : (x y : ℕ) → y ≡ x % 4 → y ≡ 2 → 256 ≡ weight x
unfolding weight
weight-2 x y q e = let h : x % 4 ≡ 2 = sym q ∙ e in rw h

pub weight-3 : (x y : ℕ) → y ≡ x % 4 → (y ≡ 0 → ⊥) → (y ≡ 1 → ⊥) → (y ≡ 2 → ⊥) → 6561 ≡ weight x
unfolding weight
weight-3 x y q e f g = rw (ne_eqb (x % 4) 0 (λ h. e (q ∙ h)), ne_eqb (x % 4) 1 (λ h. f (q ∙ h)), ne_eqb (x % 4) 2 (λ h. g (q ∙ h)))

pub cell_self : (o : List ℕ) (i : ℕ) → i / max_same ≡ i % max_same → 0 ≡ weight_cell o i
cell_self o i e = rw (eq-eqb (i / max_same) (i % max_same) e)

pub cell_other : (o : List ℕ) (i : ℕ) {r : ℕ} → (i / max_same ≡ i % max_same → ⊥) → r ≡ weight (get_or o i 0) → r ≡ weight_cell o i
cell_other o i e h = rw (ne_eqb (i / max_same) (i % max_same) e) h

pub times-open : (x y : ℕ) → (x % 8192) * (y % 2147483648) ≤ 17592186044416
times-open x y =
    let u = mod-lt x {m = 8192} (omega arith) in
    let w = mod-lt y {m = 2147483648} (omega arith) in
    let h : (x % 8192) * (y % 2147483648) ≤ 8192 * (y % 2147483648) = mul-le-mul_right {m = x % 8192} {n = 8192} (y % 2147483648) (omega arith) in
    omega arith

pub times-bound : (x y : ℕ) → times_low x y ≤ 17592186044416
unfolding times_low
times-bound x y = times-open x y

pub key-low : (x : ℕ) → x % prime < prime
key-low x = mod-lt x {m = prime} (omega arith)

-- the place on the other side is in the matrix
pub row_low : (i n : ℕ) → n ≤ max_same → i < max_same * n → i / max_same < max_same
row_low i n l h = let d = (div-lt_iff_lt-mul {k = 64} {x = i} {y = n} (omega arith)).1 (omega arith) in omega arith

pub column-low : (i : ℕ) → i % max_same < max_same
column-low i = mod-lt i {m = max_same} (omega arith)

-- what stands past the mixed keys does not count
pub as-next-key : (w keys : List ℕ) (n a : ℕ) (rest : List ℕ) {mx : List ℕ} {key r : ℕ} → mx ≡ up_to (mixed_at keys) 0 n ++ rest → key ≡ at keys a → r ≡ run (add_weighed w mx a) 0 n (key % prime) → r ≡ next_key w n keys a
unfolding next_key
as-next-key w keys n a rest {mx} {key} {r} e k h =
    h ∙ ap (λ (z : ℕ). run (add_weighed w mx a) 0 n (z % prime)) k
    ∙ run_agree (add_weighed w mx a) (λ (b s : ℕ). s + times_low (entry w a b) (mixed (at keys b))) 0 n (at keys a % prime)
    (λ b s l. ap (λ (z : ℕ). s + times_low (entry w a b) z) (filled_at (mixed_at keys) n b 0 mx rest e (omega arith)))
