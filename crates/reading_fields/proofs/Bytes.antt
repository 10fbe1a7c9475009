-- Bytes and the lists in which they stand. Assumes nothing.
use Prim.Native.Nat.{ℕ, zero, suc, ◌+◌, ◌*◌, ◌≤◌, ◌<◌}
use native.Mathlib.Omega.{arith}
use native.Mathlib.Decide.{dec_le, dec_lt}
use mathlib.Core.Path.{◌≡◌, refl, sym, ◌∙◌}
use mathlib.Core.Bool.{Bool, true, false, ◌&&◌}
use mathlib.Core.List.{List, [], ◌∷◌}
use lib.Dec.{eqb, leb}
use borrow.Author.Tests.{ne_eqb, eqb-false, le-leb, lt-leb, leb-true}
use Rattle.loops.specs.Loop.{pick}
use Rattle.loops.proofs.Loops.{and_left, and_right}
use Rattle.reading_grammar.proofs.Ends.{each}
use Rattle.element.specs.Symbols.{among}
use Rattle.reading_grammar.specs.Grammar.{nonzero, digits, several, signs, starts, marks, symbols}
use Rattle.reading_grammar.specs.declared.Move.{Move}
use Rattle.reading_grammar.specs.declared.Move.TheVariants.{Stop as stop}
use Rattle.reading_grammar.specs.Machine.{symbol_or, charging, extending, closing}
use Rattle.reading.specs.Bracket.{digit}
use Rattle.reading_fields.specs.declared.byte.Read.{Read}
use Rattle.reading_fields.specs.Field.{Peeked, Grown}
use lib.ListN.{length, get_or, get_or-eq_default}

-- n bytes from k on
abbrev from : ℕ → ℕ → List ℕ
from k zero = []
from k (suc n) = k ∷ from (suc k) n

below : (b k n : ℕ) → b < k → among b (from k n) ≡ false
unfolding among
below b k zero h = refl
below b k (suc n) h = rw (ne_eqb b k (λ e. omega arith)) (below b (suc k) n (omega arith))

above : (b k n : ℕ) → k + n ≤ b → among b (from k n) ≡ false
unfolding among
above b k zero h = refl
above b k (suc n) h = rw (ne_eqb b k (λ e. omega arith)) (above b (suc k) n (omega arith))

inside : (b k n : ℕ) → k ≤ b → b < k + n → among b (from k n) ≡ true
unfolding among
inside b k zero h l = absurd (omega arith)
inside b k (suc n) h l = split (eqb b k) refl (λ g. inside b (suc k) n g (omega arith))
  where
    split : (t : Bool) → eqb b k ≡ t → (suc k ≤ b → among b (from (suc k) n) ≡ true) → pick t true (among b (from (suc k) n)) ≡ true
    split true e f = refl
    split false e f = f (strict (dec_lt k b))
      where
        strict : Dec (k < b) → suc k ≤ b
        strict (yes g) = omega arith
        strict (no g) = absurd (eqb-false b k e (omega arith))

-- the bytes from k to k + n
pub range : (b k n : ℕ) → (leb k b && leb b (k + n)) ≡ among b (from k (suc n))
range b k n = split (dec_le k b) (dec_le b (k + n))
  where
    split : Dec (k ≤ b) → Dec (b ≤ k + n) → (leb k b && leb b (k + n)) ≡ among b (from k (suc n))
    split (yes h) (yes l) = simp (le-leb k b h, le-leb b (k + n) l, inside b k (suc n) h (omega arith))
    split (yes h) (no l) = simp (le-leb k b h, lt-leb b (k + n) (omega arith), above b k (suc n) (omega arith))
    split (no h) l = simp (lt-leb k b (omega arith), below b k (suc n) (omega arith))

pub digit_low : (b : ℕ) → among b digits ≡ true → 48 ≤ b
unfolding digits among
digit_low b h = leb-true 48 b (and_left (leb 48 b) (leb b 57) (range b 48 9 ∙ h))

pub digit-high : (b : ℕ) → among b digits ≡ true → b ≤ 57
unfolding digits among
digit-high b h = leb-true b 57 (and_right (leb 48 b) (leb b 57) (range b 48 9 ∙ h))

pub nonzero-digit : (b : ℕ) → among b nonzero ≡ true → among b digits ≡ true
unfolding nonzero digits among
nonzero-digit = each (λ b. among b digits ≡ true) nonzero (refl, (refl, (refl, (refl, (refl, (refl, (refl, (refl, (refl, tt)))))))))

pub several-digit : (b : ℕ) → among b several ≡ true → among b digits ≡ true
unfolding several digits among
several-digit = each (λ b. among b digits ≡ true) several (refl, (refl, (refl, (refl, (refl, (refl, (refl, (refl, tt))))))))

pub digit-zero : (b : ℕ) → among b digits ≡ true → (b ≡ 48 → ⊥) → among b nonzero ≡ true
unfolding nonzero digits among
digit-zero = each (λ b. (b ≡ 48 → ⊥) → among b nonzero ≡ true) digits ((λ n. absurd (n refl)), ((λ n. refl), ((λ n. refl), ((λ n. refl), ((λ n. refl), ((λ n. refl), ((λ n. refl), ((λ n. refl), ((λ n. refl), ((λ n. refl), tt))))))))))

-- what is no digit is none of `1` to `9`
pub no-nonzero : (b : ℕ) → among b digits ≡ false → among b nonzero ≡ false
no-nonzero b h = split (among b nonzero) refl
  where
    split : (t : Bool) → among b nonzero ≡ t → t ≡ false
    split true e = sym (nonzero-digit b e) ∙ h
    split false e = refl

pub digit-no-symbol : (b : ℕ) → among b digits ≡ true → (k : Move) → symbol_or b k ≡ k
unfolding symbol_or symbols starts marks among digits
digit-no-symbol = each (λ b. (k : Move) → symbol_or b k ≡ k) digits ((λ k. refl), ((λ k. refl), ((λ k. refl), ((λ k. refl), ((λ k. refl), ((λ k. refl), ((λ k. refl), ((λ k. refl), ((λ k. refl), ((λ k. refl), tt))))))))))

pub digit-no-charge : (b : ℕ) → among b digits ≡ true → charging b ≡ stop
unfolding charging extending closing signs among digits
digit-no-charge = each (λ b. charging b ≡ stop) digits (refl, (refl, (refl, (refl, (refl, (refl, (refl, (refl, (refl, (refl, tt))))))))))

pub digit-no-extension : (b : ℕ) → among b digits ≡ true → extending b ≡ stop
unfolding extending closing among digits
digit-no-extension = each (λ b. extending b ≡ stop) digits (refl, (refl, (refl, (refl, (refl, (refl, (refl, (refl, (refl, (refl, tt))))))))))

pub digit-no-close : (b : ℕ) → among b digits ≡ true → closing b ≡ stop
unfolding closing among digits
digit-no-close = each (λ b. closing b ≡ stop) digits (refl, (refl, (refl, (refl, (refl, (refl, (refl, (refl, (refl, (refl, tt))))))))))

-- a byte that is not 0 lies within the text
pub byte-in : {s : List ℕ} {p b k : ℕ} → Peeked s p b → b ≡ suc k → p < length s
byte-in k e = k.within (omega arith)

pub digit-in : {s : List ℕ} {p b : ℕ} → Peeked s p b → among b digits ≡ true → p < length s
digit-in {b = b} k h = k.within (omega (arith, digit_low b h))

-- the byte at an offset
pub there : (s : List ℕ) (p : ℕ) → Peeked s p (get_or s p 0)
there s p = record { is = refl; within = λ h. split (dec_lt p (length s)) h }
  where
    split : Dec (p < length s) → 0 < get_or s p 0 → p < length s
    split (yes l) h = l
    split (no l) h = let e : get_or s p 0 ≡ 0 = get_or-eq_default s 0 (omega arith) in absurd (omega arith)

-- a number that a digit makes longer, and one at which it ends
pub grown : (s : List ℕ) (n : Read ℕ) {b v : ℕ} → Peeked s n.at b → among b digits ≡ true → (v ≡ digit b) × (v < 10) → Grown s n (record { value = 10 * n.value + v; at = n.at + 1 })
grown s n {b} {v} k h e =
    record {
      is = simp (sym k.is, h, e.0);
      within = omega (arith, digit-in k h);
      later = omega arith;
      small = omega (arith, e.1);
    }

pub kept : (s : List ℕ) (n : Read ℕ) {b : ℕ} → Peeked s n.at b → among b digits ≡ false → n.at ≤ length s → Grown s n n
kept s n k h l = record { is = simp (sym k.is, h); within = l; later = omega arith; small = omega arith }

pub several-low : (b : ℕ) → among b several ≡ true → 50 ≤ b
unfolding several among
several-low b h = leb-true 50 b (and_left (leb 50 b) (leb b 57) (range b 50 7 ∙ h))

pub sign-in : {s : List ℕ} {p b : ℕ} → Peeked s p b → among b signs ≡ true → p < length s
unfolding signs among
sign-in {b = b} k h = k.within (each (λ x. 0 < x) signs (omega arith, (omega arith, tt)) b h)

-- a byte that is not 0 lies within the text
pub some_in : {s : List ℕ} {p b : ℕ} → Peeked s p b → (b ≡ 0 → ⊥) → p < length s
some_in {b = zero} k n = absurd (n refl)
some_in {b = suc b} k n = k.within (omega arith)
