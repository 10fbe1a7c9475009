-- Rows moved to their new numbers: what stands in the table then. Assumes nothing.
use mathlib.Core.Path.{◌≡◌, refl, sym, ap, ◌∙◌}
use mathlib.Core.Bool.{Bool, true, false}
use mathlib.Core.List.{List, [], ◌∷◌}
use Prim.Native.Nat.{ℕ, zero, suc, ◌+◌, ◌*◌, ◌<◌, ◌≤◌}
use native.Mathlib.Omega.{arith}
use native.Mathlib.Nat.{add-zero, mul-le-mul_left}
use lib.Dec.{eqb}
use lib.ListN.{length, get_or, set, length-set}
use lib.Seq.{sets, length-sets, get_or-set_same, get_or-set_other, set-get_or}
use lib.IntN.{ℤ, pos}
use borrow.Author.Tests.{eqb-true, eqb-false}
use Rattle.loops.specs.Loop.{pick, run, how_many}
use Rattle.table.proofs.Sound.{run-last}
use Rattle.folding.specs.Folding.{placed, packed}
use Rattle.folding.proofs.Ranks.{rank-low, rank_less, rank-true, rank-false, rank-all}

-- ---- cells written one after the other, from a place on
sets-before : (vs l : List ℤ) (i j : ℕ) → j < i → get_or (sets l i vs) j (pos 0) ≡ get_or l j (pos 0)
sets-before [] l i j h = refl
sets-before (v ∷ vs) l i j h = sets-before vs (set l i v) (suc i) j (omega arith) ∙ get_or-set_other l i j v (pos 0) (λ q. omega arith)

sets-after : (vs l : List ℤ) (i j : ℕ) → i + length vs ≤ j → get_or (sets l i vs) j (pos 0) ≡ get_or l j (pos 0)
sets-after [] l i j h = refl
sets-after (v ∷ vs) l i j h = sets-after vs (set l i v) (suc i) j (omega arith) ∙ get_or-set_other l i j v (pos 0) (λ q. omega arith)

sets-in : (vs l : List ℤ) (i f : ℕ) → f < length vs → i + length vs ≤ length l → get_or (sets l i vs) (i + f) (pos 0) ≡ get_or vs f (pos 0)
sets-in [] l i f h g = absurd (omega arith)
sets-in (v ∷ vs) l i zero h g = rw add-zero (sets-before vs (set l i v) (suc i) i (omega arith) ∙ get_or-set_same l i v (pos 0) (omega arith))
sets-in (v ∷ vs) l i (suc f) h g = let e : i + suc f ≡ suc i + f = omega arith in rw e (sets-in vs (set l i v) (suc i) f (omega arith) (rw length-set (omega arith)))

-- the cells that stand there already
pub sets_same : (vs l : List ℤ) (i : ℕ) → ((f : ℕ) → f < length vs → get_or vs f (pos 0) ≡ get_or l (i + f) (pos 0)) → sets l i vs ≡ l
sets_same [] l i h = refl
sets_same (v ∷ vs) l i h =
    let e : v ≡ get_or l i (pos 0) = rw add-zero at (h 0 (omega arith)) in
    let s : set l i v ≡ l = rw e (set-get_or l i (pos 0)) in
    rw s (sets_same vs l (suc i) (λ f k. let q : suc i + f ≡ i + suc f = omega arith in rw q (h (suc f) (omega arith))))

module _ (w : ℕ) (p : ℕ → Bool) (row : ℕ → List ℤ) where
  pub packed_none : (t : List ℤ) → packed w p row 0 t ≡ t
  unfolding packed run
  packed_none t = refl

  pub packed_more : (n : ℕ) (t : List ℤ) → packed w p row (suc n) t ≡ placed w p row n (packed w p row n t)
  unfolding packed
  packed_more n t = let e : 0 + n ≡ n = omega arith in rw e at (run-last (placed w p row) 0 n t)

  placed-length : (a : ℕ) (t : List ℤ) → length (placed w p row a t) ≡ length t
  placed-length a t = go (p a)
    where
      go : (z : Bool) → length (pick z (sets t (w * how_many p 0 a) (row a)) t) ≡ length t
      go true = length-sets t (w * how_many p 0 a) (row a)
      go false = refl

  pub packed-length : (n : ℕ) (t : List ℤ) → length (packed w p row n t) ≡ length t
  packed-length zero t = ap length (packed_none t)
  packed-length (suc n) t = ap length (packed_more n t) ∙ placed-length n (packed w p row n t) ∙ packed-length n t

  module _ (wide : (a : ℕ) → length (row a) ≡ w) where
    -- cells after the rows that stay are as they were
    pub packed-after : (n i : ℕ) (t : List ℤ) → w * how_many p 0 n ≤ i → get_or (packed w p row n t) i (pos 0) ≡ get_or t i (pos 0)
    packed-after zero i t h = ap (λ (u : List ℤ). get_or u i (pos 0)) (packed_none t)
    packed-after (suc n) i t h = ap (λ (u : List ℤ). get_or u i (pos 0)) (packed_more n t) ∙ go (p n) refl (packed-after n i t)
      where
        go : (z : Bool) → p n ≡ z → (w * how_many p 0 n ≤ i → get_or (packed w p row n t) i (pos 0) ≡ get_or t i (pos 0)) → get_or (pick z (sets (packed w p row n t) (w * how_many p 0 n) (row n)) (packed w p row n t)) i (pos 0) ≡ get_or t i (pos 0)
        go true e ih =
            let q = mul-le-mul_left {m = suc (how_many p 0 n)} {n = how_many p 0 (suc n)} w (omega (arith, rank-true p n e)) in
            sets-after (row n) (packed w p row n t) (w * how_many p 0 n) i (rw (wide n) (omega arith)) ∙ ih (omega arith)
        go false e ih = ih (rw (rank-false p n e) at h)

    -- a row that stays stands at its new number
    pub packed-at : (n a f : ℕ) (t : List ℤ) → a < n → p a ≡ true → f < w → w * n ≤ length t → get_or (packed w p row n t) (w * how_many p 0 a + f) (pos 0) ≡ get_or (row a) f (pos 0)
    packed-at zero a f t l h k r = absurd (omega arith)
    packed-at (suc n) a f t l h k r = ap (λ (u : List ℤ). get_or u (w * how_many p 0 a + f) (pos 0)) (packed_more n t) ∙ go (eqb a n) refl (p n) refl (λ i. packed-at n a f t i h k room)
      where
        room : w * n ≤ length t
        room = omega (arith, mul-le-mul_left {m = n} {n = suc n} w (omega arith))

        low : w * how_many p 0 n + w ≤ length t
        low = let q = mul-le-mul_left {m = how_many p 0 n} {n = n} w (rank-low p n) in omega arith

        go : (z : Bool) → eqb a n ≡ z → (y : Bool) → p n ≡ y → (a < n → get_or (packed w p row n t) (w * how_many p 0 a + f) (pos 0) ≡ get_or (row a) f (pos 0))
            → get_or (pick y (sets (packed w p row n t) (w * how_many p 0 n) (row n)) (packed w p row n t)) (w * how_many p 0 a + f) (pos 0) ≡ get_or (row a) f (pos 0)
        go true e true q ih =
            let s = eqb-true a n e in
            rw s (sets-in (row n) (packed w p row n t) (w * how_many p 0 n) f (rw (wide n) k) (rw (wide n, packed-length n t) low))
        go true e false q ih = absurd (let s = eqb-true a n e in let b = ap p (sym s) ∙ h in let z : ◌≡◌ {A = ℕ} 0 1 = cc in omega arith)
        go false e true q ih =
            let s = eqb-false a n e in
            let i : a < n = omega arith in
            let u : w * how_many p 0 a + w ≤ w * how_many p 0 n = let g = mul-le-mul_left {m = suc (how_many p 0 a)} {n = how_many p 0 n} w (rank_less p a n h i) in omega arith in
            sets-before (row n) (packed w p row n t) (w * how_many p 0 n) (w * how_many p 0 a + f) (omega arith) ∙ ih i
        go false e false q ih = let s = eqb-false a n e in ih (omega arith)

  -- where all stay, with the rows that stand there, nothing changes
  pub packed-same : (n : ℕ) (t : List ℤ) → ((a : ℕ) → a < n → p a ≡ true) → ((a f : ℕ) → a < n → f < length (row a) → get_or (row a) f (pos 0) ≡ get_or t (w * a + f) (pos 0)) → packed w p row n t ≡ t
  packed-same zero t h k = packed_none t
  packed-same (suc n) t h k =
      let ih = packed-same n t (λ a l. h a (omega arith)) (λ a f l. k a f (omega arith)) in
      let e : how_many p 0 n ≡ n = rank-all p n (λ a l. h a (omega arith)) in
      packed_more n t ∙ ap (placed w p row n) ih ∙ rw (h n (omega arith), e) (sets_same (row n) t (w * n) (λ f l. k n f (omega arith) l))
