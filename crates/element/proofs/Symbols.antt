-- What the lists of symbols say of a word: its number, and which letters it has. Assumes nothing.
use mathlib.Core.Path.{◌≡◌, refl, sym, ap, ◌∙◌}
use mathlib.Core.Bool.{Bool, true, false, not, ◌||◌}
use mathlib.Core.List.{List, [], ◌∷◌}
use Prim.Native.Nat.{ℕ, suc, ◌+◌, ◌≤◌}
use native.Mathlib.Omega.{arith}
use lib.Dec.{eqb, ltb, eqb-suc-zero}
use lib.ListN.{length}
use borrow.Author.Tests.{eqb-true, ltb-false, not-false}
use Rattle.loops.specs.Loop.{pick}
use Rattle.element.specs.Symbols.{among, same_bytes, listed, starts, symbols}
use Rattle.element.specs.Lookup.{index_from, number_of, single_of}

pub both : (a b : Bool) → pick a b false ≡ true → (a ≡ true) × (b ≡ true)
both true b e = (refl, e)
both false b e = let z : ◌≡◌ {A = ℕ} 0 1 = cc in absurd (omega arith)

pub same_bytes_lem : (s t : List ℕ) → same_bytes s t ≡ true → s ≡ t
unfolding same_bytes
same_bytes_lem [] [] e = refl
same_bytes_lem [] (y ∷ t) e = cc
same_bytes_lem (x ∷ s) [] e = cc
same_bytes_lem (x ∷ s) (y ∷ t) e =
    let h : (eqb x y ≡ true) × (same_bytes s t ≡ true) = both (eqb x y) (same_bytes s t) e in
    cc (eqb-true x y h.0, same_bytes_lem s t h.1)

listed-step : (b m : Bool) (k n : ℕ) → m ≡ not (eqb n 0) → pick b true m ≡ not (eqb (pick b (suc k) n) 0)
listed-step true m k n e = rw eqb-suc-zero
listed-step false m k n e = e

listed-from : (s : List ℕ) (k : ℕ) (l : List (List ℕ)) → listed s l ≡ not (eqb (index_from (suc k) s l) 0)
unfolding listed index_from
listed-from s k [] = refl
listed-from s k (t ∷ l) = listed-step (same_bytes s t) (listed s l) k (index_from (suc (suc k)) s l) (listed-from s (suc k) l)

-- a word is a symbol exactly if it has a number
pub listed-number : (s : List ℕ) → listed s symbols ≡ not (eqb (number_of s) 0)
unfolding number_of
listed-number s = listed-from s 0 symbols

pub no_number : (s : List ℕ) → listed s symbols ≡ false → number_of s ≡ 0
no_number s e = eqb-true (number_of s) 0 (not-false (eqb (number_of s) 0) (sym (listed-number s) ∙ e))

within_step : (b : Bool) (k n m : ℕ) → n ≤ suc k + m → pick b (suc k) n ≤ k + suc m
within_step true k n m h = omega arith
within_step false k n m h = omega arith

within : (s : List ℕ) (k : ℕ) (l : List (List ℕ)) → index_from (suc k) s l ≤ k + length l
unfolding index_from
within s k [] = omega arith
within s k (t ∷ l) = within_step (same_bytes s t) k (index_from (suc (suc k)) s l) (length l) (within s (suc k) l)

pub number-within : (s : List ℕ) → number_of s ≤ 118
unfolding number_of symbols
number-within s = within s 0 symbols

-- every word of the list passes the test
abbrev pub all_of : (List ℕ → Bool) → List (List ℕ) → Bool
all_of p [] = true
all_of p (t ∷ l) = pick (p t) (all_of p l) false

unlisted-step : (p : List ℕ → Bool) (s t : List ℕ) (b m : Bool) → same_bytes s t ≡ b → p t ≡ true → p s ≡ false → m ≡ false → pick b true m ≡ false
unlisted-step p s t true m e g h r = cc (ap p (same_bytes_lem s t e))
unlisted-step p s t false m e g h r = r

unlisted : (p : List ℕ → Bool) (s : List ℕ) (l : List (List ℕ)) → all_of p l ≡ true → p s ≡ false → listed s l ≡ false
unfolding listed
unlisted p s [] e h = refl
unlisted p s (t ∷ l) e h =
    let g : (p t ≡ true) × (all_of p l ≡ true) = both (p t) (all_of p l) e in
    unlisted-step p s t (same_bytes s t) (listed s l) refl g.0 h (unlisted p s l g.1 h)

unstarted-step : (p : ℕ → Bool) (a b : ℕ) (t m : Bool) → eqb a b ≡ t → p b ≡ true → p a ≡ false → m ≡ false → pick t true m ≡ false
unstarted-step p a b true m e g h r = cc (ap p (eqb-true a b e))
unstarted-step p a b false m e g h r = r

-- the first letter of a word passes the test
abbrev first_is : (ℕ → Bool) → List ℕ → Bool
first_is p [] = true
first_is p (a ∷ s) = p a

unstarted : (p : ℕ → Bool) (a : ℕ) (l : List (List ℕ)) → all_of (first_is p) l ≡ true → p a ≡ false → starts a l ≡ false
unfolding starts
unstarted p a [] e h = refl
unstarted p a ([] ∷ l) e h = unstarted p a l e h
unstarted p a ((b ∷ t) ∷ l) e h =
    let g : (p b ≡ true) × (all_of (first_is p) l ≡ true) = both (p b) (all_of (first_is p) l) e in
    unstarted-step p a b (eqb a b) (starts a l) refl g.0 h (unstarted p a l g.1 h)

-- no capital letter; no small letter
abbrev pub no_capital : ℕ → Bool
no_capital a = ltb a 65 || ltb 90 a

abbrev pub no_small : ℕ → Bool
no_small b = ltb b 97 || ltb 122 b

-- the letters that begin a symbol of two
abbrev pub firsts : List ℕ
firsts = 65 ∷ 66 ∷ 67 ∷ 68 ∷ 69 ∷ 70 ∷ 71 ∷ 72 ∷ 73 ∷ 75 ∷ 76 ∷ 77 ∷ 78 ∷ 79 ∷ 80 ∷ 82 ∷ 83 ∷ 84 ∷ 88 ∷ 89 ∷ 90 ∷ []

-- what each symbol passes: its first letter is a capital one, a second one is small, and before a second one stands one of those
abbrev capitalized : List ℕ → Bool
capitalized [] = false
capitalized (a ∷ s) = not (no_capital a)

abbrev small_next : List ℕ → Bool
small_next [] = false
small_next (a ∷ []) = true
small_next (a ∷ b ∷ s) = not (no_small b)

abbrev first_next : List ℕ → Bool
first_next [] = false
first_next (a ∷ []) = true
first_next (a ∷ b ∷ s) = among a firsts

pub no-capital : (a b : ℕ) → no_capital a ≡ true → number_of (a ∷ b ∷ []) ≡ 0
unfolding symbols
no-capital a b e = no_number (a ∷ b ∷ []) (unlisted capitalized (a ∷ b ∷ []) symbols refl (ap not e))

pub no-small-listed : (a b : ℕ) → no_small b ≡ true → listed (a ∷ b ∷ []) symbols ≡ false
unfolding symbols
no-small-listed a b e = unlisted small_next (a ∷ b ∷ []) symbols refl (ap not e)

pub no-small : (a b : ℕ) → no_small b ≡ true → number_of (a ∷ b ∷ []) ≡ 0
no-small a b e = no_number (a ∷ b ∷ []) (no-small-listed a b e)

pub no-first : (a b : ℕ) → among a firsts ≡ false → number_of (a ∷ b ∷ []) ≡ 0
unfolding symbols among
no-first a b e = no_number (a ∷ b ∷ []) (unlisted first_next (a ∷ b ∷ []) symbols refl e)

or-false : (a b : Bool) → (a || b) ≡ false → (a ≡ false) × (b ≡ false)
or-false true b e = let z : ◌≡◌ {A = ℕ} 0 1 = cc in absurd (omega arith)
or-false false b e = (refl, e)

pub record Capital (a : ℕ) : Type 0 where
  pub low : 65 ≤ a
  pub high : a ≤ 90

pub capital : (a : ℕ) → no_capital a ≡ false → Capital a
capital a e =
    let t : (ltb a 65 ≡ false) × (ltb 90 a ≡ false) = or-false (ltb a 65) (ltb 90 a) e in
    record { low = ltb-false a 65 t.0; high = ltb-false 90 a t.1 }

pub record Small (b : ℕ) : Type 0 where
  pub low : 97 ≤ b
  pub high : b ≤ 122

pub small : (b : ℕ) → no_small b ≡ false → Small b
small b e =
    let t : (ltb b 97 ≡ false) × (ltb 122 b ≡ false) = or-false (ltb b 97) (ltb 122 b) e in
    record { low = ltb-false b 97 t.0; high = ltb-false 122 b t.1 }

-- a byte that is no capital letter begins no symbol
pub no-single : (a : ℕ) → no_capital a ≡ true → single_of a ≡ 0
unfolding symbols single_of
no-single a e =
    simp (unlisted capitalized (a ∷ []) symbols refl (ap not e), unstarted (λ b. not (no_capital b)) a symbols refl (ap not e))
