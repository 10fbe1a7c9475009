-- Numbers that pass a test, counted from 0: the rank of each, the number at a rank, and sums over them. Assumes nothing.
use mathlib.Core.Path.{◌≡◌, refl, sym, ap, ◌∙◌}
use mathlib.Core.Bool.{Bool, true, false, ◌&&◌}
use Prim.Native.Nat.{ℕ, zero, suc, ◌+◌, ◌<◌, ◌≤◌}
use native.Mathlib.Omega.{arith}
use lib.Dec.{eqb}
use borrow.Author.Tests.{eqb-true, eqb-false, eq-eqb}
use Rattle.loops.specs.Loop.{pick, how_many}
use Rattle.same_model.proofs.Totals.{total, total-same}

-- one number more
more-from : (p : ℕ → Bool) (k m : ℕ) → how_many p k (suc m) ≡ how_many p k m + pick (p (k + m)) 1 0
unfolding how_many
more-from p k zero = let e : k + 0 ≡ k = omega arith in rw e (omega arith)
more-from p k (suc m) = let e : k + suc m ≡ suc k + m = omega arith in rw e (let ih = more-from p (suc k) m in omega arith)

module _ (p : ℕ → Bool) where
  pub rank-more : (a : ℕ) → how_many p 0 (suc a) ≡ how_many p 0 a + pick (p a) 1 0
  rank-more a = let e : 0 + a ≡ a = omega arith in rw e at (more-from p 0 a)

  pub rank-none : how_many p 0 0 ≡ 0
  unfolding how_many
  rank-none = refl

  pub rank-true : (a : ℕ) → p a ≡ true → how_many p 0 (suc a) ≡ suc (how_many p 0 a)
  rank-true a h = let e = rank-more a in let q : ◌≡◌ {A = ℕ} (pick (p a) 1 0) 1 = ap (λ (z : Bool). pick {A = ℕ} z 1 0) h in omega arith

  pub rank-false : (a : ℕ) → p a ≡ false → how_many p 0 (suc a) ≡ how_many p 0 a
  rank-false a h = let e = rank-more a in let q : ◌≡◌ {A = ℕ} (pick (p a) 1 0) 0 = ap (λ (z : Bool). pick {A = ℕ} z 1 0) h in omega arith

  pub rank-total : (n : ℕ) → how_many p 0 n ≡ total (λ a. pick (p a) 1 0) n
  unfolding total
  rank-total zero = rank-none
  rank-total (suc n) = let ih = rank-total n in let e = rank-more n in omega arith

  one-or-none : (z : Bool) → pick z 1 0 ≤ 1
  one-or-none true = omega arith
  one-or-none false = omega arith

  -- a rank is at most its number, and ranks ascend
  pub rank-low : (a : ℕ) → how_many p 0 a ≤ a
  rank-low zero = omega (arith, rank-none)
  rank-low (suc a) = omega (arith, rank-more a, one-or-none (p a), rank-low a)

  pub rank_mono : (a b : ℕ) → a ≤ b → how_many p 0 a ≤ how_many p 0 b
  rank_mono a zero h = let e : a ≡ 0 = omega arith in rw e (omega arith)
  rank_mono a (suc b) h = go (eqb a (suc b)) refl (λ l. rank_mono a b l)
    where
      go : (z : Bool) → eqb a (suc b) ≡ z → (a ≤ b → how_many p 0 a ≤ how_many p 0 b) → how_many p 0 a ≤ how_many p 0 (suc b)
      go true e ih = rw (eqb-true a (suc b) e) (omega arith)
      go false e ih = let q = eqb-false a (suc b) e in let r = ih (omega arith) in omega (arith, rank-more b)

  pub rank_less : (a b : ℕ) → p a ≡ true → a < b → how_many p 0 a < how_many p 0 b
  rank_less a b h l = let q = rank-true a h in let r = rank_mono (suc a) b l in omega arith

  -- one number for each rank
  pub rank-one : (a b : ℕ) → p a ≡ true → p b ≡ true → how_many p 0 a ≡ how_many p 0 b → a ≡ b
  rank-one a b h k e =
      let before : ¬ (a < b) = λ l. let q = rank_less a b h l in omega arith in
      let after : ¬ (b < a) = λ l. let q = rank_less b a k l in omega arith in
      omega arith

  -- where every number passes, the rank is the number
  pub rank-all : (n : ℕ) → ((a : ℕ) → a < n → p a ≡ true) → how_many p 0 n ≡ n
  rank-all zero h = rank-none
  rank-all (suc n) h = let q = rank-true n (h n (omega arith)) in let ih = rank-all n (λ a l. h a (omega arith)) in omega arith

-- the number below n that passes and has the rank k
unfoldable pub nth : (ℕ → Bool) → ℕ → ℕ → ℕ
nth p zero k = 0
nth p (suc n) k = pick (p n && eqb (how_many p 0 n) k) n (nth p n k)

pub record Nth (p : ℕ → Bool) (n k : ℕ) : Type 0 where
  pub below : nth p n k < n
  pub passes : p (nth p n k) ≡ true
  pub ranked : how_many p 0 (nth p n k) ≡ k

module _ (p : ℕ → Bool) where
  nth_last : (n k : ℕ) → p n ≡ true → how_many p 0 n ≡ k → nth p (suc n) k ≡ n
  unfolding nth
  nth_last n k h e = rw (h, eq-eqb (how_many p 0 n) k e)

  nth-before : (n k : ℕ) → ((p n ≡ true) → how_many p 0 n ≡ k → ⊥) → nth p (suc n) k ≡ nth p n k
  unfolding nth
  nth-before n k h = go (p n) refl (eqb (how_many p 0 n) k) refl
    where
      go : (y : Bool) → p n ≡ y → (z : Bool) → eqb (how_many p 0 n) k ≡ z → pick (y && z) n (nth p n k) ≡ nth p n k
      go true e true f = absurd (h e (eqb-true (how_many p 0 n) k f))
      go true e false f = refl
      go false e z f = refl

  pub nth-rank : (n a : ℕ) → a < n → p a ≡ true → nth p n (how_many p 0 a) ≡ a
  nth-rank zero a l h = absurd (omega arith)
  nth-rank (suc n) a l h = go (eqb a n) refl (λ i. nth-rank n a i h)
    where
      go : (z : Bool) → eqb a n ≡ z → (a < n → nth p n (how_many p 0 a) ≡ a) → nth p (suc n) (how_many p 0 a) ≡ a
      go true e ih = let q = eqb-true a n e in rw q (nth_last n (how_many p 0 n) (ap p (sym q) ∙ h) refl)
      go false e ih =
          let q = eqb-false a n e in
          let i : a < n = omega arith in
          nth-before n (how_many p 0 a) (λ u w. let r = rank_less p a n h i in omega arith) ∙ ih i

  pub nth-at : (n k : ℕ) → k < how_many p 0 n → Nth p n k
  nth-at zero k l = absurd (omega (arith, rank-none p))
  nth-at (suc n) k l = go (p n) refl (eqb (how_many p 0 n) k) refl (λ i. nth-at n k i)
    where
      lift : nth p (suc n) k ≡ nth p n k → Nth p n k → Nth p (suc n) k
      lift e w = record { below = rw e (let q = w.below in omega arith); passes = rw e w.passes; ranked = rw e w.ranked }

      go : (y : Bool) → p n ≡ y → (z : Bool) → eqb (how_many p 0 n) k ≡ z → (k < how_many p 0 n → Nth p n k) → Nth p (suc n) k
      go true h true e ih =
          let q = nth_last n k h (eqb-true (how_many p 0 n) k e) in
          record { below = rw q (omega arith); passes = rw q h; ranked = rw q (eqb-true (how_many p 0 n) k e) }
      go true h false e ih =
          let q = eqb-false (how_many p 0 n) k e in
          lift (nth-before n k (λ u w. q w)) (ih (omega (arith, rank-true p n h)))
      go false h z e ih = lift (nth-before n k (λ u w. let z : ◌≡◌ {A = ℕ} 0 1 = cc in omega arith)) (ih (omega (arith, rank-false p n h)))

  -- a sum over the ranks is a sum over the numbers that pass
  pub total-nth : (g : ℕ → ℕ) (n : ℕ) → total (λ k. g (nth p n k)) (how_many p 0 n) ≡ total (λ a. pick (p a) (g a) 0) n
  unfolding total
  total-nth g zero = rw (rank-none p)
  total-nth g (suc n) = go (p n) refl (total-nth g n)
    where
      go : (z : Bool) → p n ≡ z → total (λ k. g (nth p n k)) (how_many p 0 n) ≡ total (λ a. pick (p a) (g a) 0) n
          → total (λ k. g (nth p (suc n) k)) (how_many p 0 (suc n)) ≡ total (λ a. pick (p a) (g a) 0) n + pick z (g n) 0
      go true h ih =
          let e = total-same (λ k. g (nth p (suc n) k)) (λ k. g (nth p n k)) (how_many p 0 n) (λ k l. ap g (nth-before n k (λ u w. omega arith))) in
          let q : g (nth p (suc n) (how_many p 0 n)) ≡ g n = ap g (nth_last n (how_many p 0 n) h refl) in
          rw (rank-true p n h) (omega arith)
      go false h ih =
          let e = total-same (λ k. g (nth p (suc n) k)) (λ k. g (nth p n k)) (how_many p 0 n) (λ k l. ap g (nth-before n k (λ u w. omega arith))) in
          rw (rank-false p n h) (omega arith)
