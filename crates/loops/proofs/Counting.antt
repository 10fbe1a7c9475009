-- A loop that counts how many numbers pass a test, and what the count says. Assumes nothing.
use Prim.Native.Nat.{ℕ, zero, suc, ◌+◌, ◌-◌, ◌≤◌, ◌<◌}
use native.Mathlib.Omega.{arith}
use native.Mathlib.Numerals.{add-one}
use mathlib.Core.Path.{◌≡◌, refl, sym, ap, ◌∙◌}
use mathlib.Core.Bool.{Bool, true, false, not, true≢false}
use lib.Dec.{eqb}
use borrow.Author.Tests.{eq-eqb, ne_eqb, not-true, not-false}
use Rattle.loops.specs.Loop.{pick, each, how_many}
use Rattle.loops.proofs.Loops.{each_at, each-fails}

-- the loop stands at i of n and has counted c
pub record Counted (p : ℕ → Bool) (n i c : ℕ) : Type 0 where
  pub within : i ≤ n
  pub most : c ≤ i
  pub same : how_many p 0 n ≡ c + how_many p i (n - i)

pub counted_start : {p : ℕ → Bool} {n : ℕ} → Counted p n 0 0
counted_start {p} {n} =
    let d : n - 0 ≡ n = omega arith in
    let e : how_many p 0 (n - 0) ≡ how_many p 0 n = ap (how_many p 0) d in
    record { within = omega arith; most = omega arith; same = omega (arith, e) }

at_most_one : (x : Bool) → pick x 1 0 ≤ 1
at_most_one true = omega arith
at_most_one false = omega arith

module _ {p : ℕ → Bool} {n i c : ℕ} (w : Counted p n i c) where
  pub counted_step : (d : ℕ) → i < n → d ≡ c + pick (p i) 1 0 → Counted p n (i + 1) d
  unfolding how_many
  counted_step d h e =
      let q : n - i ≡ suc (n - (i + 1)) = omega arith in
      let r : how_many p i (n - i) ≡ pick (p i) 1 0 + how_many p (i + 1) (n - (i + 1)) = simp (q, add-one i) in
      record { within = omega arith; most = omega (arith, w.most, e, at_most_one (p i)); same = omega (arith, w.same, r, e) }

  pub counted-end : n ≤ i → c ≡ how_many p 0 n
  unfolding how_many
  counted-end h =
      let q : n - i ≡ 0 = omega arith in
      let r : how_many p i (n - i) ≡ 0 = simp q in
      omega (arith, w.same, r)

-- tests that agree on the numbers tried count alike
many-same-from : (p q : ℕ → Bool) (k m : ℕ) → ((j : ℕ) → k ≤ j → j < k + m → p j ≡ q j) → how_many p k m ≡ how_many q k m
unfolding how_many
many-same-from p q k zero h = refl
many-same-from p q k (suc m) h =
    let e : ◌≡◌ {A = ℕ} (pick (p k) 1 0) (pick (q k) 1 0) = ap (λ (x : Bool). pick {A = ℕ} x 1 0) (h k (omega arith) (omega arith)) in
    omega (arith, e, many-same-from p q (suc k) m (λ j l u. h j (omega arith) (omega arith)))

pub many-same : (p q : ℕ → Bool) (m : ℕ) → ((j : ℕ) → j < m → p j ≡ q j) → how_many p 0 m ≡ how_many q 0 m
many-same p q m h = many-same-from p q 0 m (λ j l u. h j (omega arith))

-- where one test passes the other does, and counts no less
mono-from : (p q : ℕ → Bool) (k m : ℕ) → ((j : ℕ) → k ≤ j → j < k + m → p j ≡ true → q j ≡ true) → how_many p k m ≤ how_many q k m
unfolding how_many
mono-from p q k zero h = omega arith
mono-from p q k (suc m) h = let r = mono-from p q (suc k) m (λ j l u. h j (omega arith) (omega arith)) in go (p k) (q k) (h k (omega arith) (omega arith)) r
  where
    go : (x y : Bool) → (x ≡ true → y ≡ true) → how_many p (suc k) m ≤ how_many q (suc k) m → pick x 1 0 + how_many p (suc k) m ≤ pick y 1 0 + how_many q (suc k) m
    go true true f r = omega arith
    go true false f r = absurd (true≢false (sym (f refl)))
    go false true f r = omega arith
    go false false f r = omega arith

pub many-mono : (p q : ℕ → Bool) (m : ℕ) → ((j : ℕ) → j < m → p j ≡ true → q j ≡ true) → how_many p 0 m ≤ how_many q 0 m
many-mono p q m h = mono-from p q 0 m (λ j l u. h j (omega arith))

-- none passes
none_from : (p : ℕ → Bool) (k m : ℕ) → ((j : ℕ) → k ≤ j → j < k + m → p j ≡ false) → how_many p k m ≡ 0
unfolding how_many
none_from p k zero h = refl
none_from p k (suc m) h =
    let e : ◌≡◌ {A = ℕ} (pick (p k) 1 0) 0 = ap (λ (x : Bool). pick {A = ℕ} x 1 0) (h k (omega arith) (omega arith)) in
    omega (arith, e, none_from p (suc k) m (λ j l u. h j (omega arith) (omega arith)))

pub many-none : (p : ℕ → Bool) (m : ℕ) → ((j : ℕ) → j < m → p j ≡ false) → how_many p 0 m ≡ 0
many-none p m h = none_from p 0 m (λ j l u. h j (omega arith))

-- a number that passes is another than one that does not
other : (p : ℕ → Bool) (i k : ℕ) → p i ≡ true → p k ≡ false → i ≡ k → ⊥
other p i k e f q = true≢false (sym e ∙ ap p q ∙ f)

-- one that passes counts, and so do two
some-from : (p : ℕ → Bool) (k m j : ℕ) → k ≤ j → j < k + m → p j ≡ true → 0 < how_many p k m
unfolding how_many
some-from p k zero j l u e = absurd (omega arith)
some-from p k (suc m) j l u e = go (λ g. some-from p (suc k) m j g (omega arith) e) (p k) refl
  where
    go : (suc k ≤ j → 0 < how_many p (suc k) m) → (x : Bool) → p k ≡ x → 0 < pick x 1 0 + how_many p (suc k) m
    go later true f = omega arith
    go later false f = let r = later (omega (arith, l, other p j k e f)) in omega arith

pub many-some : (p : ℕ → Bool) (m j : ℕ) → j < m → p j ≡ true → 0 < how_many p 0 m
many-some p m j h e = some-from p 0 m j (omega arith) (omega arith) e

two_from : (p : ℕ → Bool) (k m i j : ℕ) → k ≤ i → i < j → j < k + m → p i ≡ true → p j ≡ true → 1 < how_many p k m
unfolding how_many
two_from p k zero i j l u v e f = absurd (omega arith)
two_from p k (suc m) i j l u v e f = go (λ g. two_from p (suc k) m i j g u (omega arith) e f) (p k) refl
  where
    go : (suc k ≤ i → 1 < how_many p (suc k) m) → (x : Bool) → p k ≡ x → 1 < pick x 1 0 + how_many p (suc k) m
    go later true g = let r = some-from p (suc k) m j (omega arith) (omega arith) f in omega arith
    go later false g = let r = later (omega (arith, l, other p i k e g)) in omega arith

pub many-two : (p : ℕ → Bool) (m i j : ℕ) → i < j → j < m → p i ≡ true → p j ≡ true → 1 < how_many p 0 m
many-two p m i j h l e f = two_from p 0 m i j (omega arith) h (omega arith) e f

-- a count above 0 has one that passes, a count above 1 has two
pub record One (p : ℕ → Bool) (k m : ℕ) : Type 0 where
  pub at : ℕ
  pub from : k ≤ at
  pub below : at < k + m
  pub passes : p at ≡ true

one_from : (p : ℕ → Bool) (k m : ℕ) → 0 < how_many p k m → One p k m
unfolding how_many
one_from p k zero h = absurd (omega arith)
one_from p k (suc m) h = go (one_from p (suc k) m) (p k) refl h
  where
    go : (0 < how_many p (suc k) m → One p (suc k) m) → (x : Bool) → p k ≡ x → 0 < pick x 1 0 + how_many p (suc k) m → One p k (suc m)
    go later true e g = record { at = k; from = omega arith; below = omega arith; passes = e }
    go later false e g = let r = later (omega arith) in record { at = r.at; from = omega (arith, r.from); below = omega (arith, r.below); passes = r.passes }

pub one_of : (p : ℕ → Bool) (m : ℕ) → 0 < how_many p 0 m → One p 0 m
one_of p m h = one_from p 0 m h

pub record Two (p : ℕ → Bool) (k m : ℕ) : Type 0 where
  pub first : ℕ
  pub second : ℕ
  pub from : k ≤ first
  pub apart : first < second
  pub below : second < k + m
  pub passes : (p first ≡ true) × (p second ≡ true)

two-of-from : (p : ℕ → Bool) (k m : ℕ) → 1 < how_many p k m → Two p k m
unfolding how_many
two-of-from p k zero h = absurd (omega arith)
two-of-from p k (suc m) h = go (two-of-from p (suc k) m) (p k) refl h
  where
    go : (1 < how_many p (suc k) m → Two p (suc k) m) → (x : Bool) → p k ≡ x → 1 < pick x 1 0 + how_many p (suc k) m → Two p k (suc m)
    go later true e g =
        let r = one_from p (suc k) m (omega arith) in
        record { first = k; second = r.at; from = omega arith; apart = omega (arith, r.from); below = omega (arith, r.below); passes = (e, r.passes) }
    go later false e g =
        let r = later (omega arith) in
        record { first = r.first; second = r.second; from = omega (arith, r.from); apart = r.apart; below = omega (arith, r.below); passes = r.passes }

pub two-of : (p : ℕ → Bool) (m : ℕ) → 1 < how_many p 0 m → Two p 0 m
two-of p m h = two-of-from p 0 m h

-- none passes exactly if the count is 0
pub none-many : (p : ℕ → Bool) (m : ℕ) → each (λ j. not (p j)) 0 m ≡ eqb (how_many p 0 m) 0
none-many p m = go (each (λ j. not (p j)) 0 m) refl
  where
    go : (x : Bool) → each (λ j. not (p j)) 0 m ≡ x → x ≡ eqb (how_many p 0 m) 0
    go true e = sym (eq-eqb (how_many p 0 m) 0 (many-none p m (λ j l. not-true (p j) (each_at (λ i. not (p i)) m j e l))))
    go false e =
        let f = each-fails (λ j. not (p j)) 0 m e in
        sym (ne_eqb (how_many p 0 m) 0 (λ z. omega (arith, many-some p m f.at (omega (arith, f.below)) (not-false (p f.at) f.fails))))
