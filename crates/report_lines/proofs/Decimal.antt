-- A number in decimal: what io's contract says is the definition. Assumes nothing.
use Prim.Native.Nat.{ℕ, zero, suc, ◌+◌, ◌-◌, ◌/◌, ◌%◌, ◌^◌, ◌≤◌, ◌<◌}
use mathlib.Core.Path.{◌≡◌, refl, sym, ap, subst, ◌∙◌}
use mathlib.Core.List.{List, [], ◌∷◌, ◌++◌}
use mathlib.Core.Bool.{Bool, true, false, cond}
use native.Mathlib.Omega.{arith}
use native.Mathlib.Nat.{pow-suc, mod-lt, mod-eq_of_lt, le-div_iff_mul-le, div-lt_iff_lt-mul}
use lib.ListN.{length, length-append}
use lib.Dec.{ltb}
use borrow.Author.Tests.{lt-ltb, le-ltb}
use Rattle.io.specs.Digits.{hex_digit_ascii, last_digits, IsDigitCount}
use Rattle.loops.specs.Loop.{pick}
use Rattle.report_lines.specs.Format.{dec_by, dec_of}

glyph-low : (d : ℕ) → d < 10 → hex_digit_ascii d ≡ 48 + d
glyph-low d h = ap (λ t. cond t (48 + d) (87 + d)) (lt-ltb d 10 h)

dec-one : (f n : ℕ) → n < 10 → dec_by (suc f) n ≡ (48 + n) ∷ []
unfolding dec_by
dec-one f n h = ap (λ t. pick t ((48 + n) ∷ []) (dec_by f (n / 10) ++ ((48 + n % 10) ∷ []))) (lt-ltb n 10 h)

dec-more : (f n : ℕ) → 10 ≤ n → dec_by (suc f) n ≡ dec_by f (n / 10) ++ ((48 + n % 10) ∷ [])
unfolding dec_by
dec-more f n h = ap (λ t. pick t ((48 + n) ∷ []) (dec_by f (n / 10) ++ ((48 + n % 10) ∷ []))) (le-ltb n 10 h)

pow_pos : (k : ℕ) → 1 ≤ 10 ^ k
pow_pos zero = omega arith
pow_pos (suc k) = omega (arith, pow-suc 10 k, pow_pos k)

dec-law : (f k n : ℕ) → suc k ≤ f → n < 10 ^ suc k → (1 ≤ k → 10 ^ k ≤ n) → last_digits 10 (suc k) n ≡ dec_by f n
dec-law zero k n h g l = absurd (omega (arith, h))
dec-law (suc f) zero n h g l =
    let low : n < 10 = omega (arith, g) in
    ap (λ d. hex_digit_ascii d ∷ []) (mod-eq_of_lt low) ∙ ap (λ d. d ∷ []) (glyph-low n low) ∙ sym (dec-one f n low)
dec-law (suc f) (suc k) n h g l =
    let low : 10 ^ suc k ≤ n = l (omega arith) in
    ap (λ x. x ++ (hex_digit_ascii (n % 10) ∷ []))
    (dec-law f k (n / 10) (omega (arith, h)) ((div-lt_iff_lt-mul {k = 10} (omega arith)).1 (omega (arith, g, pow-suc 10 (suc k)))) (λ q. (le-div_iff_mul-le {k = 10} (omega arith)).1 (omega (arith, low, pow-suc 10 k))))
    ∙ ap (λ d. dec_by f (n / 10) ++ (d ∷ [])) (glyph-low (n % 10) (mod-lt n {m = 10} (omega arith)))
    ∙ sym (dec-more f n (omega (arith, low, pow-suc 10 k, pow_pos k)))

-- io's digits are those of the definition
pub fewest-dec : (k n : ℕ) → k ≤ 20 → IsDigitCount 10 1 n k → last_digits 10 k n ≡ dec_of n
unfolding dec_of
fewest-dec zero n h w = absurd (omega (arith, w.0))
fewest-dec (suc k) n h w = dec-law 20 k n h w.1 (λ q. subst (λ j. 10 ^ j ≤ n) (omega arith) (w.2 (omega (arith, q))))

pow-ge : (j : ℕ) → 100000000000000000000 ≤ 10 ^ (20 + j)
pow-ge zero = omega arith
pow-ge (suc j) = subst (λ k. 100000000000000000000 ≤ 10 ^ k) {x = suc (20 + j)} (omega arith) (omega (arith, pow-suc 10 (20 + j), pow-ge j))

-- a number of 64 bits has at most 20 digits
pub few-digits : (k n : ℕ) → n < 18446744073709551616 → IsDigitCount 10 1 n k → k ≤ 20
few-digits k n h w =
    let e : (21 ≤ k → 20 + (k - 21) ≡ k - 1) = λ q. omega (arith, q) in
    let g : (21 ≤ k → ⊥) = λ q. omega (arith, h, subst (λ j. 100000000000000000000 ≤ 10 ^ j) (e q) (pow-ge (k - 21)), w.2 (omega (arith, q))) in
    omega (arith, g)

dec-step : (t : Bool) (f : ℕ) (a l : List ℕ) → length a ≡ 1 → length l ≤ suc f → length (pick t a l) ≤ suc f
dec-step true f a l h g = omega arith
dec-step false f a l h g = g

dec-short : (f n : ℕ) → length (dec_by f n) ≤ f
unfolding dec_by
dec-short zero n = omega arith
dec-short (suc f) n =
    dec-step (ltb n 10) f ((48 + n) ∷ []) (dec_by f (n / 10) ++ ((48 + n % 10) ∷ [])) refl (simp length-append (omega (arith, dec-short f (n / 10))))

pub dec-within : (n : ℕ) → length (dec_of n) ≤ 20
unfolding dec_of
dec-within n = dec-short 20 n
