-- Laws of counting, and of looking for the lowest, over the numbers of a range; and of the loops that do it. Assumes nothing.
use mathlib.Core.Path.{◌≡◌, refl, sym, ap, ◌∙◌}
use mathlib.Core.Bool.{Bool, true, false}
use Prim.Native.Nat.{ℕ, zero, suc, ◌+◌, ◌-◌, ◌<◌, ◌≤◌}
use native.Mathlib.Omega.{arith}
use native.Mathlib.Numerals.{add-one}
use native.Mathlib.Decide.{ℕ_discrete}
use Rattle.loops.specs.Loop.{pick}
use Rattle.matching.specs.Graph.{count_if}
use Rattle.matching.proofs.Graph.{never}
use Rattle.matching_forced.specs.Forced.{count, lowest}

-- none counted: none passes
count-none-from : (p : ℕ → Bool) (k m : ℕ) → count p k m ≡ 0 → (j : ℕ) → k ≤ j → j < k + m → p j ≡ false
unfolding count
count-none-from p k zero h j l u = absurd (omega arith)
count-none-from p k (suc m) h j l u = go (p k) refl h (ℕ_discrete j k) (λ c l'. count-none-from p (suc k) m c j l' (omega arith))
  where
    go : (b : Bool) → p k ≡ b → count_if b (count p (suc k) m) ≡ 0 → Dec (j ≡ k) → (count p (suc k) m ≡ 0 → suc k ≤ j → p j ≡ false) → p j ≡ false
    go true e c d f = absurd (omega arith)
    go false e c (yes q) f = rw q e
    go false e c (no q) f = f c (omega arith)

pub count_none : (p : ℕ → Bool) (m : ℕ) → count p 0 m ≡ 0 → (j : ℕ) → j < m → p j ≡ false
count_none p m h j l = count-none-from p 0 m h j (omega arith) (omega arith)

-- the lowest that passes is in the range, or the number after it
lowest-range-from : (p : ℕ → Bool) (k m : ℕ) → (k ≤ lowest p k m) × (lowest p k m ≤ k + m)
unfolding lowest
lowest-range-from p k zero = (omega arith, omega arith)
lowest-range-from p k (suc m) = go (p k) (lowest-range-from p (suc k) m)
  where
    go : (b : Bool) → (suc k ≤ lowest p (suc k) m) × (lowest p (suc k) m ≤ suc k + m) → (k ≤ pick b k (lowest p (suc k) m)) × (pick b k (lowest p (suc k) m) ≤ k + suc m)
    go true r = (omega arith, omega arith)
    go false r = (omega arith, omega arith)

pub lowest-range : (p : ℕ → Bool) (m : ℕ) → lowest p 0 m ≤ m
lowest-range p m = omega (arith, (lowest-range-from p 0 m).1)

-- where it is in the range, it passes
lowest-passes-from : (p : ℕ → Bool) (k m : ℕ) → lowest p k m < k + m → p (lowest p k m) ≡ true
unfolding lowest
lowest-passes-from p k zero h = absurd (omega arith)
lowest-passes-from p k (suc m) h = go (p k) refl h (lowest-passes-from p (suc k) m)
  where
    go : (b : Bool) → p k ≡ b → pick b k (lowest p (suc k) m) < k + suc m → (lowest p (suc k) m < suc k + m → p (lowest p (suc k) m) ≡ true) → p (pick b k (lowest p (suc k) m)) ≡ true
    go true e l f = e
    go false e l f = f (omega arith)

pub lowest-passes : (p : ℕ → Bool) (m : ℕ) → lowest p 0 m < m → p (lowest p 0 m) ≡ true
lowest-passes p m h = lowest-passes-from p 0 m (omega arith)

-- none below it passes
lowest-least-from : (p : ℕ → Bool) (k m j : ℕ) → k ≤ j → j < lowest p k m → p j ≡ false
unfolding lowest
lowest-least-from p k zero j l u = absurd (omega arith)
lowest-least-from p k (suc m) j l u = go (p k) refl u (ℕ_discrete j k) (lowest-least-from p (suc k) m j)
  where
    go : (b : Bool) → p k ≡ b → j < pick b k (lowest p (suc k) m) → Dec (j ≡ k) → (suc k ≤ j → j < lowest p (suc k) m → p j ≡ false) → p j ≡ false
    go true e v d f = absurd (omega arith)
    go false e v (yes q) f = rw q e
    go false e v (no q) f = f (omega arith) v

pub lowest-least : (p : ℕ → Bool) (m j : ℕ) → j < lowest p 0 m → p j ≡ false
lowest-least p m j = lowest-least-from p 0 m j (omega arith)

-- one counted: the lowest passes, and no other
pub record Only (p : ℕ → Bool) (m b : ℕ) : Type 0 where
  pub inside : b < m
  pub passes : p b ≡ true
  pub alone : (j : ℕ) → j < m → p j ≡ true → j ≡ b

count-one-from : (p : ℕ → Bool) (k m : ℕ) → count p k m ≡ 1 → (lowest p k m < k + m) × ((j : ℕ) → k ≤ j → j < k + m → p j ≡ true → j ≡ lowest p k m)
unfolding count lowest
count-one-from p k zero h = absurd (omega arith)
count-one-from p k (suc m) h = go (p k) refl h (count-one-from p (suc k) m)
  where
    go : (b : Bool) → p k ≡ b → count_if b (count p (suc k) m) ≡ 1 → (count p (suc k) m ≡ 1 → (lowest p (suc k) m < suc k + m) × ((j : ℕ) → suc k ≤ j → j < suc k + m → p j ≡ true → j ≡ lowest p (suc k) m))
        → (pick b k (lowest p (suc k) m) < k + suc m) × ((j : ℕ) → k ≤ j → j < k + suc m → p j ≡ true → j ≡ pick b k (lowest p (suc k) m))
    go true e c f = (omega arith, λ j l u t. first j l u t (ℕ_discrete j k))
      where
        first : (j : ℕ) → k ≤ j → j < k + suc m → p j ≡ true → Dec (j ≡ k) → j ≡ k
        first j l u t (yes q) = q
        first j l u t (no q) = absurd (never (p j) t (count-none-from p (suc k) m (omega arith) j (omega arith) (omega arith)))
    go false e c f = let r = f c in (omega (arith, r.0), λ j l u t. later r j l u t (ℕ_discrete j k))
      where
        later : (lowest p (suc k) m < suc k + m) × ((j : ℕ) → suc k ≤ j → j < suc k + m → p j ≡ true → j ≡ lowest p (suc k) m)
            → (j : ℕ) → k ≤ j → j < k + suc m → p j ≡ true → Dec (j ≡ k) → j ≡ lowest p (suc k) m
        later r j l u t (yes q) = absurd (never (p k) (rw q at t) e)
        later r j l u t (no q) = r.1 j (omega arith) (omega arith) t

pub count-one : (p : ℕ → Bool) (m : ℕ) → count p 0 m ≡ 1 → Only p m (lowest p 0 m)
count-one p m h =
    let r = count-one-from p 0 m h in
    let i : lowest p 0 m < m = omega (arith, r.0) in
    record { inside = i; passes = lowest-passes p m i; alone = λ j l t. r.1 j (omega arith) (omega arith) t }

-- fewer pass: fewer are counted; and strictly fewer where one is lost
count-less-from : (p q : ℕ → Bool) (k m : ℕ) → ((j : ℕ) → q j ≡ true → p j ≡ true) → count q k m ≤ count p k m
unfolding count
count-less-from p q k zero h = omega arith
count-less-from p q k (suc m) h = go (p k) (q k) refl refl (count-less-from p q (suc k) m h)
  where
    go : (a b : Bool) → p k ≡ a → q k ≡ b → count q (suc k) m ≤ count p (suc k) m → count_if b (count q (suc k) m) ≤ count_if a (count p (suc k) m)
    go true true e f l = omega arith
    go true false e f l = omega arith
    go false true e f l = absurd (never (p k) (h k f) e)
    go false false e f l = l

count-lost-from : (p q : ℕ → Bool) (k m b : ℕ) → ((j : ℕ) → q j ≡ true → p j ≡ true) → k ≤ b → b < k + m → p b ≡ true → q b ≡ false → count q k m < count p k m
unfolding count
count-lost-from p q k zero b h l u s n = absurd (omega arith)
count-lost-from p q k (suc m) b h l u s n = at (ℕ_discrete b k) (λ l'. count-lost-from p q (suc k) m b h l' (omega arith) s n)
  where
    fewer : count q (suc k) m ≤ count p (suc k) m
    fewer = count-less-from p q (suc k) m h

    go : (a c : Bool) → p k ≡ a → q k ≡ c → count q (suc k) m < count p (suc k) m → count_if c (count q (suc k) m) < count_if a (count p (suc k) m)
    go true true e f r = omega arith
    go true false e f r = omega arith
    go false true e f r = absurd (never (p k) (h k f) e)
    go false false e f r = r

    at : Dec (b ≡ k) → (suc k ≤ b → count q (suc k) m < count p (suc k) m) → count_if (q k) (count q (suc k) m) < count_if (p k) (count p (suc k) m)
    at (yes e) f = let s' : p k ≡ true = rw e at s in let n' : q k ≡ false = rw e at n in rw (s', n') (omega (arith, fewer))
    at (no e) f = go (p k) (q k) refl refl (f (omega arith))

pub count-lost : (p q : ℕ → Bool) (m b : ℕ) → ((j : ℕ) → q j ≡ true → p j ≡ true) → b < m → p b ≡ true → q b ≡ false → count q 0 m < count p 0 m
count-lost p q m b h l s n = count-lost-from p q 0 m b h (omega arith) (omega arith) s n

pub count_most : (p : ℕ → Bool) (k m : ℕ) → count p k m ≤ m
unfolding count
count_most p k zero = omega arith
count_most p k (suc m) = go (p k) (count_most p (suc k) m)
  where
    go : (b : Bool) → count p (suc k) m ≤ m → count_if b (count p (suc k) m) ≤ suc m
    go true l = omega arith
    go false l = omega arith

-- tests that agree on the range
count-same-from : (p q : ℕ → Bool) (k m : ℕ) → ((j : ℕ) → k ≤ j → j < k + m → p j ≡ q j) → count p k m ≡ count q k m
unfolding count
count-same-from p q k zero h = refl
count-same-from p q k (suc m) h = rw (h k (omega arith) (omega arith), count-same-from p q (suc k) m (λ j l u. h j (omega arith) (omega arith)))

pub count_same : (p q : ℕ → Bool) (m : ℕ) → ((j : ℕ) → j < m → p j ≡ q j) → count p 0 m ≡ count q 0 m
count_same p q m h = count-same-from p q 0 m (λ j l u. h j (omega arith))

lowest-same-from : (p q : ℕ → Bool) (k m : ℕ) → ((j : ℕ) → k ≤ j → j < k + m → p j ≡ q j) → lowest p k m ≡ lowest q k m
unfolding lowest
lowest-same-from p q k zero h = refl
lowest-same-from p q k (suc m) h = rw (h k (omega arith) (omega arith), lowest-same-from p q (suc k) m (λ j l u. h j (omega arith) (omega arith)))

pub lowest-same : (p q : ℕ → Bool) (m : ℕ) → ((j : ℕ) → j < m → p j ≡ q j) → lowest p 0 m ≡ lowest q 0 m
lowest-same p q m h = lowest-same-from p q 0 m (λ j l u. h j (omega arith))

-- a loop that counts stands at i of m, with c counted
pub record Counted (p : ℕ → Bool) (m i c : ℕ) : Type 0 where
  pub within : i ≤ m
  pub fewer : c ≤ i
  pub same : count p 0 m ≡ c + count p i (m - i)

pub counted_start : {p : ℕ → Bool} {m : ℕ} → Counted p m 0 0
counted_start {p} {m} = record { within = omega arith; fewer = omega arith; same = let d : m - 0 ≡ m = omega arith in rw d (omega arith) }

module _ {p : ℕ → Bool} {m i c : ℕ} (w : Counted p m i c) where
  pub counted_step : i < m → (c' : ℕ) → c' ≡ count_if (p i) c → Counted p m (i + 1) c'
  unfolding count
  counted_step h c' e =
      let d : m - i ≡ suc (m - (i + 1)) = omega arith in
      let s : count p 0 m ≡ c + count_if (p i) (count p (suc i) (m - (i + 1))) = w.same ∙ rw d in
      record { within = omega arith; fewer = less (p i) e; same = s ∙ go (p i) e ∙ ap (λ (n : ℕ). c' + count p n (m - (i + 1))) (sym (add-one i)) }
    where
      less : (b : Bool) → c' ≡ count_if b c → c' ≤ i + 1
      less true q = omega (arith, w.fewer)
      less false q = omega (arith, w.fewer)

      go : (b : Bool) → c' ≡ count_if b c → c + count_if b (count p (suc i) (m - (i + 1))) ≡ c' + count p (suc i) (m - (i + 1))
      go true q = omega arith
      go false q = omega arith

  pub counted-yes : i < m → {r : Bool} → r ≡ p i → r ≡ true → {c' : ℕ} → c' ≡ c + 1 → Counted p m (i + 1) c'
  counted-yes h e t {c'} q = counted_step h c' (rw (sym e ∙ t) (q ∙ add-one c))

  pub counted-no : i < m → {r : Bool} → r ≡ p i → r ≡ false → {c' : ℕ} → c' ≡ c → Counted p m (i + 1) c'
  counted-no h e t {c'} q = counted_step h c' (rw (sym e ∙ t) q)

  pub counted-end : m ≤ i → c ≡ count p 0 m
  unfolding count
  counted-end h = let d : m - i ≡ 0 = omega arith in let s : count p 0 m ≡ c + 0 = w.same ∙ rw d in omega arith

-- a loop that looks for the lowest stands at i of m
pub record Sought (p : ℕ → Bool) (m i : ℕ) : Type 0 where
  pub within : i ≤ m
  pub same : lowest p 0 m ≡ lowest p i (m - i)

pub sought-start : {p : ℕ → Bool} {m : ℕ} → Sought p m 0
sought-start {p} {m} = record { within = omega arith; same = let d : m - 0 ≡ m = omega arith in rw d }

module _ {p : ℕ → Bool} {m i : ℕ} (w : Sought p m i) where
  pub sought-step : i < m → p i ≡ false → Sought p m (i + 1)
  unfolding lowest
  sought-step h e = let d : m - i ≡ suc (m - (i + 1)) = omega arith in record { within = omega arith; same = w.same ∙ rw (d, e, add-one i) }

  pub sought-here : i < m → p i ≡ true → i ≡ lowest p 0 m
  unfolding lowest
  sought-here h e = let d : m - i ≡ suc (m - (i + 1)) = omega arith in sym (w.same ∙ rw (d, e))

  pub sought-end : m ≤ i → m ≡ lowest p 0 m
  unfolding lowest
  sought-end h = let d : m - i ≡ 0 = omega arith in let q : i ≡ m = omega (arith, w.within) in sym (w.same ∙ rw d q)

-- none passes: the lowest is past the last
pub none-lowest : {m k : ℕ} → m ≡ k → m ≤ k
none-lowest e = omega arith
