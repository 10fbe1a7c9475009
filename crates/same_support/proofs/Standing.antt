-- The digits of a set taken from the lowest on, and what is gathered for them. Assumes nothing.
use mathlib.Core.Path.{◌≡◌, refl, sym, ap, ◌∙◌, subst}
use mathlib.Core.Bool.{Bool, true, false, ◌&&◌, not}
use mathlib.Core.List.{List}
use Prim.Native.Nat.{ℕ, zero, suc, ◌+◌, ◌-◌, ◌*◌, ◌/◌, ◌%◌, ◌^◌, ◌<◌, ◌≤◌, max}
use native.Mathlib.Nat.{div-one, div-eq_of_lt, mod-lt, lt_of_lt_of_le, zero-lt-suc}
use native.Mathlib.Numerals.{one-add}
use native.Mathlib.Omega.{arith}
use lib.Arith.{digits_mod}
use lib.Pow.{shr-shr, pow_mono}
use lib.Bits.{bit_or, or_shr, or_step, or_comm}
use lib.Count.{count_trailing_zeros, under}
use lib.Dec.{eqb, ltb}
use lib.ListN.{get_or}
use borrow.Author.Tests.{ltb-true, ltb-false, eqb-true, eqb-false, not-true, not-false, lt-ltb}
use Rattle.loops.proofs.Loops.{and_right}
use Rattle.same_model.specs.Same.{max_same}
use Rattle.same_open.specs.Open.{bit}
use Rattle.same_open.proofs.Laws.{cases}
use Rattle.same_open.proofs.Masks.{bit-none, by_equal}
use Rattle.same_support.specs.Support.{Reaches}

-- the larger of 1 and a digit is 1
one-top : (y : ℕ) → y < 2 → max 1 y ≡ 1
one-top zero h = refl
one-top (suc zero) h = refl
one-top (suc (suc y)) h = absurd (omega arith)

-- a digit of the first of two sets is a digit of both together
bit-left : (a b d : ℕ) → bit a d ≡ 1 → bit (bit_or a b) d ≡ 1
unfolding bit
bit-left a b d h =
    let y = b / 2 ^ d % 2 in
    let l : y < 2 = mod-lt (b / 2 ^ d) (zero-lt-suc 1) in
    ap (λ (x : ℕ). x % 2) (or_shr a b d ∙ or_step (a / 2 ^ d) (b / 2 ^ d))
    ∙ ap (λ (i : ℕ). (bit_or (a / 2 ^ d / 2) (b / 2 ^ d / 2) * 2 + i) % 2) (ap (λ (i : ℕ). max i y) h ∙ one-top y l)
    ∙ digits_mod (bit_or (a / 2 ^ d / 2) (b / 2 ^ d / 2)) (omega arith)

-- and so is a digit of the second
bit-right : (a b d : ℕ) → bit b d ≡ 1 → bit (bit_or a b) d ≡ 1
bit-right a b d h = ap (λ (x : ℕ). bit x d) (or_comm a b) ∙ bit-left b a d h

-- the digits of a number without its lowest ones
bit_past : (n i j : ℕ) → bit (n / 2 ^ i) j ≡ bit n (i + j)
unfolding bit
bit_past n i j = ap (λ (x : ℕ). x % 2) (shr-shr n i j)

-- the lowest digit
bit-zero : (n : ℕ) → bit n 0 ≡ n % 2
unfolding bit
bit-zero n = ap (λ (x : ℕ). x % 2) (div-one n)

-- the digits above it are those of the half
bit-suc : (n j : ℕ) → bit n (suc j) ≡ bit (n / 2) j
bit-suc n j = ap (bit n) (sym (one-add j)) ∙ sym (bit_past n 1 j)

-- no digit is set below the lowest set one
pub none_below : (k n j : ℕ) → j < count_trailing_zeros k n → bit n j ≡ 1 → ⊥
unfolding count_trailing_zeros
none_below zero n j h b = omega arith
none_below (suc k) n j h b = go (none_below k (n / 2)) (n % 2) refl j h b
  where
    go : ((j : ℕ) → j < count_trailing_zeros k (n / 2) → bit (n / 2) j ≡ 1 → ⊥) → (r : ℕ) → n % 2 ≡ r → (j : ℕ) → j < under r (count_trailing_zeros k (n / 2)) → bit n j ≡ 1 → ⊥
    go f zero e zero i b = let z : n % 2 ≡ 1 = sym (bit-zero n) ∙ b in omega (arith, e, z)
    go f zero e (suc j) i b = f j (omega arith) (sym (bit-suc n j) ∙ b)
    go f (suc r) e j i b = omega arith

-- what is left of a number without the zeros at its end is not 0
pub some_left : (k n : ℕ) → 0 < n → 0 < n / 2 ^ count_trailing_zeros k n
unfolding count_trailing_zeros
some_left zero n h = rw (div-one n) h
some_left (suc k) n h = go (some_left k (n / 2)) (n % 2) refl
  where
    go : (0 < n / 2 → 0 < n / 2 / 2 ^ count_trailing_zeros k (n / 2)) → (r : ℕ) → n % 2 ≡ r → 0 < n / 2 ^ under r (count_trailing_zeros k (n / 2))
    go f zero e =
        let t = count_trailing_zeros k (n / 2) in
        let q : n / 2 / 2 ^ t ≡ n / 2 ^ suc t = shr-shr n 1 t ∙ ap (λ (x : ℕ). n / 2 ^ x) (one-add t) in
        subst (λ (x : ℕ). 0 < x) q (f (omega arith))
    go f (suc r) e = rw (div-one n) h

-- a number of 64 digits has none from the 64th on
digit_low : (m d : ℕ) → m < 2 ^ 64 → 0 < m / 2 ^ d → d < 64
digit_low m d h p = cases (ltb d 64) (λ e. ltb-true d 64 e) (λ e. let z : m / 2 ^ d ≡ 0 = div-eq_of_lt (lt_of_lt_of_le h (pow_mono {i = 64} {j = d} (ltb-false d 64 e))) in absurd (omega (arith, z, p)))

-- of the digits of a mask those from d on are left
pub among-left : (mask d rest : ℕ) → rest ≡ mask / 2 ^ d → (x : ℕ) → d ≤ x → bit mask x ≡ 1 → bit rest (x - d) ≡ 1
among-left mask d rest l x i b = let z : d + (x - d) ≡ x = omega arith in ap (λ (y : ℕ). bit y (x - d)) l ∙ bit_past mask d (x - d) ∙ ap (bit mask) z ∙ b

-- a set holds what is allowed beside those of a mask that are below d
pub record Reached (allowed : List ℕ) (mask d c r : ℕ) : Type 0 where
  pub reached : (e x : ℕ) → x < d → bit mask x ≡ 1 → bit (get_or allowed (max_same * c + x) 0) e ≡ 1 → bit r e ≡ 1

-- at first there are none of these
none-reached : {allowed : List ℕ} {mask c r : ℕ} → Reached allowed mask 0 c r
none-reached = record { reached = λ e x i. absurd (omega arith) }

-- with the lowest digit that is left, a set holds what is allowed beside it too
reached-step : {allowed : List ℕ} {mask d c r rest : ℕ} → rest ≡ mask / 2 ^ d → Reached allowed mask d c r → Reached allowed mask (d + count_trailing_zeros 64 rest + 1) c (bit_or r (get_or allowed (max_same * c + (d + count_trailing_zeros 64 rest)) 0))
reached-step {allowed} {mask} {d} {c} {r} {rest} l f =
    let t = count_trailing_zeros 64 rest in
    let s = get_or allowed (max_same * c + (d + t)) 0 in
    record {
      reached =
          λ e x i b k.
          by_equal x (d + t)
          (λ q. bit-right r s e (subst (λ (y : ℕ). bit (get_or allowed (max_same * c + y) 0) e ≡ 1) q k))
          (λ q.
          cases (ltb x d)
          (λ w. bit-left r s e (f.reached e x (ltb-true x d w) b k))
          (λ w. let g = ltb-false x d w in absurd (none_below 64 rest (x - d) (omega (arith, g, i, q)) (among-left mask d rest l x g b))));
    }

-- where none below n is left, all are reached
reached-end : {allowed : List ℕ} {mask d c r rest : ℕ} (n : ℕ) → rest ≡ mask / 2 ^ d → (d < n → rest ≡ 0) → Reached allowed mask d c r → Reaches allowed n mask c r
reached-end {allowed} {mask} {d} {c} {r} {rest} n l z f e s =
    cases (ltb s.0 d)
    (λ w. f.reached e s.0 (ltb-true s.0 d w) s.2 s.3)
    (λ w. let g = ltb-false s.0 d w in absurd (bit-none rest (s.0 - d) (z (omega (arith, g, s.1))) (among-left mask d rest l s.0 g s.2)))

-- the digits of a mask from d on are left, and a set holds what the others reach
pub record Gone (allowed : List ℕ) (mask c side rest d : ℕ) : Type 0 where
  pub low : mask < 2 ^ 64
  pub left : rest ≡ mask / 2 ^ d
  pub at : Reached allowed mask d c side

-- so it is at first
pub gone-start : {allowed : List ℕ} {mask c : ℕ} → mask < 2 ^ 64 → Gone allowed mask c 0 mask 0
gone-start {allowed} {mask} h = record { low = h; left = sym (div-one mask); at = none-reached }

module _ {allowed : List ℕ} {mask c side rest d : ℕ} (w : Gone allowed mask c side rest d) where
  -- the next digit is one of the 64
  pub gone-low : (n : ℕ) → (ltb d n && not (eqb rest 0)) ≡ true → d + count_trailing_zeros 64 rest < 64
  gone-low n h =
      let f = eqb-false rest 0 (not-true (eqb rest 0) (and_right (ltb d n) (not (eqb rest 0)) h)) in
      let p : 0 < rest = omega (arith, f) in
      let t = count_trailing_zeros 64 rest in
      digit_low mask (d + t) w.low (subst (λ (x : ℕ). 0 < x) (ap (λ (x : ℕ). x / 2 ^ t) w.left ∙ shr-shr mask d t) (some_left 64 rest p))

  -- and after the next digit
  pub gone-step : Gone allowed mask c (bit_or side (get_or allowed (64 * c + (d + count_trailing_zeros 64 rest)) 0)) (rest / 2 ^ count_trailing_zeros 64 rest / 2) (d + count_trailing_zeros 64 rest + 1)
  gone-step =
      let t = count_trailing_zeros 64 rest in
      record {
        low = w.low;
        left = ap (λ (x : ℕ). x / 2 ^ t / 2) w.left ∙ ap (λ (x : ℕ). x / 2) (shr-shr mask d t) ∙ shr-shr mask (d + t) 1;
        at = reached-step w.left w.at;
      }

  -- where the loop ends, all are reached
  pub gone-end : (n : ℕ) → (ltb d n && not (eqb rest 0)) ≡ false → Reaches allowed n mask c side
  gone-end n h = reached-end n w.left (λ i. eqb-true rest 0 (not-false (eqb rest 0) (subst (λ (b : Bool). (b && not (eqb rest 0)) ≡ false) (lt-ltb d n i) h))) w.at
