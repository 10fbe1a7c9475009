-- A number written in decimal is a number of the grammar with the same value. Assumes nothing.
use mathlib.Core.Path.{◌≡◌, refl, sym, ap, ◌∙◌, subst}
use mathlib.Core.Bool.{Bool, true, false}
use mathlib.Core.List.{List, [], ◌∷◌}
use Prim.Native.Nat.{ℕ, suc, ◌+◌, ◌-◌, ◌*◌, ◌/◌, ◌%◌, ◌<◌, ◌≤◌}
use native.Mathlib.Omega.{arith}
use lib.Dec.{ltb}
use borrow.Author.Tests.{ltb-true, ltb-false, lt-ltb, le-ltb}
use Rattle.loops.specs.Loop.{each}
use Rattle.loops.proofs.Loops.{each_at}
use Rattle.element.specs.Symbols.{among}
use Rattle.reading_grammar.specs.Grammar.{nonzero, digits, several, none, more, Number, number}
use Rattle.reading.specs.Bracket.{digit}
use Rattle.writing.specs.Spell.{digit_byte, decimal}

-- the value of digits after a value
abbrev pub value : ℕ → List ℕ → ℕ
value x [] = x
value x (b ∷ s) = value (10 * x + digit b) s

pub digit-of : (d : ℕ) → digit (digit_byte d) ≡ d
digit-of d = omega arith

pub is_digit : (d : ℕ) → d < 10 → among (digit_byte d) digits ≡ true
unfolding each among digits
is_digit d h = each_at (λ d. among (digit_byte d) digits) 10 d refl h

shifted : (b : List ℕ) (k n : ℕ) → each (λ d. among (digit_byte (k + d)) b) 0 n ≡ true → (d : ℕ) → k ≤ d → d < k + n → among (digit_byte d) b ≡ true
shifted b k n h d l g = let e : k + (d - k) ≡ d = omega arith in subst (λ (x : ℕ). among (digit_byte x) b ≡ true) e (each_at (λ d. among (digit_byte (k + d)) b) n (d - k) h (omega arith))

pub is-nonzero : (d : ℕ) → 0 < d → d < 10 → among (digit_byte d) nonzero ≡ true
unfolding each among nonzero
is-nonzero d h g = shifted nonzero 1 9 refl d h g

pub is-several : (d : ℕ) → 1 < d → d < 10 → among (digit_byte d) several ≡ true
unfolding each among several
is-several d h g = shifted several 2 8 refl d h g

-- a number from 1 on with at most k + 1 digits
pub record Spelled (k n : ℕ) : Type 0 where
  pub number : Number k (decimal n)
  pub same : value 0 (decimal n) ≡ n

one : (n : ℕ) → ltb n 10 ≡ true → decimal n ≡ digit_byte n ∷ []
unfolding decimal
one n e = rw e

pub two : (n : ℕ) → ltb n 10 ≡ false → ltb n 100 ≡ true → decimal n ≡ digit_byte (n / 10) ∷ digit_byte (n % 10) ∷ []
unfolding decimal
two n e f = rw (e, f)

three : (n : ℕ) → ltb n 10 ≡ false → ltb n 100 ≡ false → ltb n 1000 ≡ true → decimal n ≡ digit_byte (n / 100) ∷ digit_byte (n / 10 % 10) ∷ digit_byte (n % 10) ∷ []
unfolding decimal
three n e f g = rw (e, f, g)

four : (n : ℕ) → ltb n 10 ≡ false → ltb n 100 ≡ false → ltb n 1000 ≡ false → decimal n ≡ digit_byte (n / 1000) ∷ digit_byte (n / 100 % 10) ∷ digit_byte (n / 10 % 10) ∷ digit_byte (n % 10) ∷ []
unfolding decimal
four n e f g = rw (e, f, g)

spelled_as : (k n : ℕ) (s : List ℕ) → decimal n ≡ s → Number k s → value 0 s ≡ n → Spelled k n
spelled_as k n s e x v = record { number = subst (Number k) (sym e) x; same = ap (value 0) e ∙ v }

-- numbers below 1,000 have at most three digits, those below 10,000 four
pub spelled : (k n : ℕ) → 0 < n → n < 1000 → Spelled (suc (suc k)) n
spelled k n h l = go (ltb n 10) refl (ltb n 100) refl
  where
    go : (x : Bool) → ltb n 10 ≡ x → (y : Bool) → ltb n 100 ≡ y → Spelled (suc (suc k)) n
    go true e y f = let q = ltb-true n 10 e in spelled_as (suc (suc k)) n (digit_byte n ∷ []) (one n e) (number (is-nonzero n h q) none) (omega arith)
    go false e true f =
        let q = ltb-false n 10 e in
        let r = ltb-true n 100 f in
        spelled_as (suc (suc k)) n (digit_byte (n / 10) ∷ digit_byte (n % 10) ∷ []) (two n e f)
        (number (is-nonzero (n / 10) (omega arith) (omega arith)) (more (is_digit (n % 10) (omega arith)) none)) (omega arith)
    go false e false f =
        let q = ltb-false n 100 f in
        spelled_as (suc (suc k)) n (digit_byte (n / 100) ∷ digit_byte (n / 10 % 10) ∷ digit_byte (n % 10) ∷ []) (three n e f (lt-ltb n 1000 l))
        (number (is-nonzero (n / 100) (omega arith) (omega arith)) (more (is_digit (n / 10 % 10) (omega arith)) (more (is_digit (n % 10) (omega arith)) none))) (omega arith)

four-value : (n a b c p q r : ℕ) → n ≡ 10 * a + p → a ≡ 10 * b + q → b ≡ 10 * c + r → value 0 (digit_byte c ∷ digit_byte r ∷ digit_byte q ∷ digit_byte p ∷ []) ≡ n
four-value n a b c p q r x y z = omega arith

pub spelled-long : (n : ℕ) → 0 < n → n < 10000 → Spelled 3 n
spelled-long n h l = go (ltb n 1000) refl
  where
    go : (x : Bool) → ltb n 1000 ≡ x → Spelled 3 n
    go true e = spelled 1 n h (ltb-true n 1000 e)
    go false e =
        let q = ltb-false n 1000 e in
        spelled_as 3 n (digit_byte (n / 1000) ∷ digit_byte (n / 100 % 10) ∷ digit_byte (n / 10 % 10) ∷ digit_byte (n % 10) ∷ []) (four n (le-ltb n 10 (omega arith)) (le-ltb n 100 (omega arith)) e)
        (number (is-nonzero (n / 1000) (omega arith) (omega arith)) (more (is_digit (n / 100 % 10) (omega arith)) (more (is_digit (n / 10 % 10) (omega arith)) (more (is_digit (n % 10) (omega arith)) none))))
        (four-value n (n / 10) (n / 100) (n / 1000) (n % 10) (n / 10 % 10) (n / 100 % 10) (omega arith) (omega arith) (omega arith))
