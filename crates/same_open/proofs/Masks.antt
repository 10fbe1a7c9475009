-- Numbers as sets of digits: doubling, the digits that two have in common, and a loop that sets digits from the last to the first. Assumes nothing.
use mathlib.Core.Path.{◌≡◌, sym, ap, ap₂, ◌∙◌, subst}
use Prim.Native.Nat.{ℕ, suc, ◌+◌, ◌-◌, ◌*◌, ◌/◌, ◌%◌, ◌^◌, ◌<◌, ◌≤◌, min}
use native.Mathlib.Nat.{div-one, zero-div, pow-suc}
use native.Mathlib.Numerals.{one-add}
use native.Mathlib.Omega.{arith}
use lib.Arith.{digits_div, digits_mod}
use lib.Pow.{shr-shr, pow_mono, pow_pos}
use lib.Bits.{bit_and, and_shr, and_step}
use borrow.Author.Tests.{eqb-true, eqb-false}
use lib.Dec.{eqb}
use Rattle.same_open.specs.Open.{bit}
use Rattle.same_open.proofs.Laws.{cases}

-- the digits of a number with one more in front of them
bit-next : (m r d : ℕ) → r < 2 → bit (m * 2 + r) (suc d) ≡ bit m d
unfolding bit
bit-next m r d h =
    ap (λ (x : ℕ). (m * 2 + r) / 2 ^ x % 2) (sym (one-add d))
    ∙ ap (λ (x : ℕ). x % 2) (sym (shr-shr (m * 2 + r) 1 d))
    ∙ ap (λ (x : ℕ). x / 2 ^ d % 2) (digits_div m h)

bit-first : (m : ℕ) → bit (m * 2 + 1) 0 ≡ 1
unfolding bit
bit-first m = ap (λ (x : ℕ). x % 2) (div-one (m * 2 + 1)) ∙ digits_mod m (omega arith)

-- a digit of both
pub bit-both : (a b d : ℕ) → bit a d ≡ 1 → bit b d ≡ 1 → bit (bit_and a b) d ≡ 1
unfolding bit
bit-both a b d h k =
    ap (λ (x : ℕ). x % 2) (and_shr a b d ∙ and_step (a / 2 ^ d) (b / 2 ^ d))
    ∙ ap₂ (λ (i j : ℕ). (bit_and (a / 2 ^ d / 2) (b / 2 ^ d / 2) * 2 + min i j) % 2) h k
    ∙ digits_mod (bit_and (a / 2 ^ d / 2) (b / 2 ^ d / 2)) (omega arith)

-- 0 has none
pub bit-none : (m d : ℕ) → m ≡ 0 → bit m d ≡ 1 → ⊥
unfolding bit
bit-none m d e h = let z : 0 / 2 ^ d ≡ 0 = zero-div (2 ^ d) in let g : (0 / 2 ^ d) % 2 ≡ 1 = ap (λ (x : ℕ). x / 2 ^ d % 2) (sym e) ∙ h in let k : 0 % 2 ≡ 1 = ap (λ (x : ℕ). x % 2) (sym z) ∙ g in omega arith

-- a loop from n down to e has set the digits of those that pass the test, shifted by e
pub record Masked (P : ℕ → Type 0) (n mask e : ℕ) : Type 0 where
  pub within : e ≤ n
  pub low : mask < 2 ^ (n - e)
  pub marked : (x : ℕ) → e ≤ x → x < n → P x → bit mask (x - e) ≡ 1

pub by_equal : {A : Type 0} (a b : ℕ) → (a ≡ b → A) → ((a ≡ b → ⊥) → A) → A
by_equal a b f g = cases (eqb a b) (λ e. f (eqb-true a b e)) (λ e. g (eqb-false a b e))

module _ {P : ℕ → Type 0} {n : ℕ} where
  pub masked-start : Masked P n 0 n
  masked-start = record { within = omega arith; low = pow_pos (n - n); marked = λ x i j. absurd (omega arith) }

  module _ {mask e : ℕ} (w : Masked P n mask e) where
    pub masked-end : e ≤ 0 → (x : ℕ) → x < n → P x → bit mask x ≡ 1
    masked-end h x i p = let z : x - e ≡ x = omega arith in ap (bit mask) (sym z) ∙ w.marked x (omega arith) i p

    pub masked-size : e ≤ 0 → mask < 2 ^ n
    masked-size h = let z : n - e ≡ n = omega arith in subst (λ (x : ℕ). mask < 2 ^ x) z w.low

    module _ (h : 0 < e) where
      twice : 2 ^ (n - (e - 1)) ≡ 2 ^ (n - e) * 2
      twice = let k : n - (e - 1) ≡ suc (n - e) = omega (arith, w.within) in ap (λ (x : ℕ). 2 ^ x) k ∙ pow-suc 2 (n - e)

      -- doubling stays within 64 digits
      pub masked-room : n ≤ 64 → 2 * mask + 1 < 2 ^ 64
      masked-room f = let k : 2 ^ (n - (e - 1)) ≤ 2 ^ 64 = pow_mono {i = n - (e - 1)} {j = 64} (omega arith) in let l = w.low in omega (arith, twice)

      grown : (r : ℕ) → r < 2 → (P (e - 1) → bit (mask * 2 + r) 0 ≡ 1) → Masked P n (mask * 2 + r) (e - 1)
      grown r l f =
          record {
            within = omega (arith, w.within);
            low = let k = w.low in omega (arith, twice);
            marked =
                λ x i j p.
                by_equal x (e - 1)
                (λ q. let z : x - (e - 1) ≡ 0 = omega arith in let g : P (e - 1) = rw q at p in rw z (f g))
                (λ q. let z : x - (e - 1) ≡ suc (x - e) = omega (arith, q) in rw z (bit-next mask r (x - e) l ∙ w.marked x (omega (arith, q)) j p));
          }

      pub masked-one : Masked P n (2 * mask + 1) (e - 1)
      masked-one = let q : 2 * mask + 1 ≡ mask * 2 + 1 = omega arith in rw q (grown 1 (omega arith) (λ p. bit-first mask))

      pub masked-none : (P (e - 1) → ⊥) → Masked P n (2 * mask) (e - 1)
      masked-none f = let q : 2 * mask ≡ mask * 2 + 0 = omega arith in rw q (grown 0 (omega arith) (λ p. absurd (f p)))
