-- Sums over the numbers below n: a permutation does not change them. Assumes nothing.
use mathlib.Core.Path.{◌≡◌, refl, sym, ap, ◌∙◌}
use mathlib.Core.Bool.{Bool, true, false}
use Prim.Native.Nat.{ℕ, zero, suc, ◌+◌, ◌<◌, ◌≤◌}
use native.Mathlib.Omega.{arith}
use native.Mathlib.Nat.{add-zero}
use lib.Dec.{eqb}
use borrow.Author.Tests.{eqb-true, eqb-false, eq-eqb, ne_eqb}
use Rattle.loops.specs.Loop.{pick, run}
use Rattle.same_model.proofs.Onto.{Hit, without, without-below, without-one, onto}

-- f 0 + .. + f (n - 1)
unfoldable pub total : (ℕ → ℕ) → ℕ → ℕ
total f zero = 0
total f (suc n) = total f n + f n

run-last : (g : ℕ → ℕ) (k m s : ℕ) → run (λ (j s : ℕ). s + g j) k (suc m) s ≡ run (λ (j s : ℕ). s + g j) k m s + g (k + m)
unfolding run
run-last g k zero s = ap (λ (j : ℕ). s + g j) (sym (add-zero k))
run-last g k (suc m) s = let e : k + suc m ≡ suc k + m = omega arith in rw e (run-last g (suc k) m (s + g k))

-- a loop that adds up
pub run_more : (g : ℕ → ℕ) (m s : ℕ) → run (λ (j s : ℕ). s + g j) 0 m s ≡ s + total g m
unfolding run total
run_more g zero s = sym (add-zero s)
run_more g (suc m) s = let e : 0 + m ≡ m = omega arith in run-last g 0 m s ∙ rw e (let ih = run_more g m s in omega arith)

pub run-total : (g : ℕ → ℕ) (m : ℕ) → run (λ (j s : ℕ). s + g j) 0 m 0 ≡ total g m
run-total g m = run_more g m 0 ∙ omega arith

pub total-same : (f g : ℕ → ℕ) (n : ℕ) → ((a : ℕ) → a < n → f a ≡ g a) → total f n ≡ total g n
unfolding total
total-same f g zero h = refl
total-same f g (suc n) h = let e = total-same f g n (λ a l. h a (omega arith)) in let q = h n (omega arith) in omega arith

pub total-add : (f g : ℕ → ℕ) (n : ℕ) → total (λ a. f a + g a) n ≡ total f n + total g n
unfolding total
total-add f g zero = refl
total-add f g (suc n) = let e = total-add f g n in omega arith

pub total-le : (f g : ℕ → ℕ) (n : ℕ) → ((a : ℕ) → a < n → f a ≤ g a) → total f n ≤ total g n
unfolding total
total-le f g zero h = omega arith
total-le f g (suc n) h = let e = total-le f g n (λ a l. h a (omega arith)) in let q = h n (omega arith) in omega arith

pub total-none : (f : ℕ → ℕ) (n : ℕ) → ((a : ℕ) → a < n → f a ≡ 0) → total f n ≡ 0
unfolding total
total-none f zero h = refl
total-none f (suc n) h = let e = total-none f n (λ a l. h a (omega arith)) in let q = h n (omega arith) in omega arith

-- one number counts
pub total-one : (c o n : ℕ) → c < n → total (λ b. pick (eqb c b) o 0) n ≡ o
unfolding total
total-one c o zero l = absurd (omega arith)
total-one c o (suc n) l = go (eqb c n) refl (λ i. total-one c o n i)
  where
    go : (z : Bool) → eqb c n ≡ z → (c < n → total (λ b. pick (eqb c b) o 0) n ≡ o) → total (λ b. pick (eqb c b) o 0) n + pick z o 0 ≡ o
    go true e ih =
        let q = eqb-true c n e in
        let t : total (λ b. pick (eqb c b) o 0) n ≡ 0 = total-none (λ b. pick (eqb c b) o 0) n (λ a i. ap (λ (z : Bool). pick z o 0) (ne_eqb c a (λ k. omega arith))) in
        omega arith
    go false e ih = let q = eqb-false c n e in let t = ih (omega arith) in omega arith

pub total-at : (c n : ℕ) (g : ℕ → ℕ) → c < n → total (λ b. pick (eqb c b) (g b) 0) n ≡ g c
total-at c n g l = total-same (λ b. pick (eqb c b) (g b) 0) (λ b. pick (eqb c b) (g c) 0) n (λ b i. go b (eqb c b) refl) ∙ total-one c (g c) n l
  where
    go : (b : ℕ) (z : Bool) → eqb c b ≡ z → pick z (g b) 0 ≡ pick z (g c) 0
    go b true e = ap g (sym (eqb-true c b e))
    go b false e = refl

-- sums in the other order
pub total-exchange : (F : ℕ → ℕ → ℕ) (n m : ℕ) → total (λ b. total (λ k. F b k) m) n ≡ total (λ k. total (λ b. F b k) n) m
unfolding total
total-exchange F n zero = total-none (λ b. 0) n (λ a l. refl)
total-exchange F n (suc m) = total-add (λ b. total (λ k. F b k) m) (λ b. F b m) n ∙ ap (λ (s : ℕ). s + total (λ b. F b m) n) (total-exchange F n m)

-- terms that differ at one number only
total-but : (h k : ℕ → ℕ) (c n : ℕ) → c < n → ((a : ℕ) → a < n → (a ≡ c → ⊥) → h a ≡ k a) → total h n + k c ≡ total k n + h c
unfolding total
total-but h k c zero l f = absurd (omega arith)
total-but h k c (suc n) l f = go (eqb c n) refl (λ i. total-but h k c n i (λ a u. f a (omega arith)))
  where
    go : (z : Bool) → eqb c n ≡ z → (c < n → total h n + k c ≡ total k n + h c) → (total h n + h n) + k c ≡ (total k n + k n) + h c
    go true e ih =
        let q = eqb-true c n e in
        let t = total-same h k n (λ a i. f a (omega arith) (λ w. omega arith)) in
        rw q (omega arith)
    go false e ih =
        let q = eqb-false c n e in
        let t = ih (omega arith) in
        let u = f n (omega arith) (λ w. q (sym w)) in
        omega arith

-- the same numbers in another order
module _ (n : ℕ) (f : ℕ → ℕ) (h : (a : ℕ) → a < suc n → f a < suc n) (j : (a b : ℕ) → a < suc n → b < suc n → f a ≡ f b → a ≡ b) (g : ℕ → ℕ) where
  stays : (a : ℕ) → (f a ≡ n → ⊥) → without f n a ≡ f a
  stays a q = ap (λ (z : Bool). pick z (f n) (f a)) (ne_eqb (f a) n q)

  permuted-step : total (λ a. g (without f n a)) n ≡ total g n → total (λ a. g (f a)) n + g (f n) ≡ total g n + g n
  permuted-step ih = go (eqb (f n) n) refl
    where
      go : (z : Bool) → eqb (f n) n ≡ z → total (λ a. g (f a)) n + g (f n) ≡ total g n + g n
      go true e =
          let q = eqb-true (f n) n e in
          let t = total-same (λ a. g (f a)) (λ a. g (without f n a)) n (λ a l. ap g (sym (stays a (λ w. let u : a ≡ n = j a n (omega arith) (omega arith) (w ∙ sym q) in omega arith)))) in
          rw q (omega (arith, ih))
      go false e = part (onto (suc n) f h j n (omega arith))
        where
          part : Hit f (suc n) n → total (λ a. g (f a)) n + g (f n) ≡ total g n + g n
          part c =
              let q = eqb-false (f n) n e in
              let i : c.at < n = omega (arith, c.within, ne-last c.at c.hits q) in
              let t = total-but (λ a. g (f a)) (λ a. g (without f n a)) c.at n i (λ a l w. ap g (sym (stays a (λ u. w (j a c.at (omega arith) (omega arith) (u ∙ sym c.hits)))))) in
              let u : g (without f n c.at) ≡ g (f n) = ap g (ap (λ (z : Bool). pick z (f n) (f c.at)) (eq-eqb (f c.at) n c.hits)) in
              let v : g (f c.at) ≡ g n = ap g c.hits in
              omega (arith, ih)
            where
              ne-last : (a : ℕ) → f a ≡ n → (f n ≡ n → ⊥) → a ≡ n → ⊥
              ne-last a y q e = q (ap f (sym e) ∙ y)

pub total-permuted : (n : ℕ) (f : ℕ → ℕ) → ((a : ℕ) → a < n → f a < n) → ((a b : ℕ) → a < n → b < n → f a ≡ f b → a ≡ b) → (g : ℕ → ℕ) → total (λ a. g (f a)) n ≡ total g n
unfolding total
total-permuted zero f h j g = refl
total-permuted (suc n) f h j g = permuted-step n f h j g (total-permuted n (without f n) (without-below n f h j) (without-one n f h j) g)
