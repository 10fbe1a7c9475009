-- The loops over a list of pairs: 1 or 0 at each in a row, and taking each back. Assumes nothing.
use mathlib.Core.Path.{◌≡◌, refl, sym, ap, ◌∙◌}
use mathlib.Core.List.{List, [], ◌∷◌, ◌++◌}
use Prim.Native.Nat.{ℕ, zero, suc, ◌+◌, ◌-◌, ◌<◌, ◌≤◌}
use native.Mathlib.Omega.{arith}
use native.Mathlib.Numerals.{add-one}
use lib.ListN.{length, take, drop, get_or, set, length-set, drop_of_length-le}
use lib.Seq.{drop-cons, length-take-le, get_or-take, set-append_left, drop-set-lt}
use Rattle.matching.specs.Enumeration.{Row}
use Rattle.matching_forced.specs.Steps.{backward, ones, zeros, Ones}

-- the loop from the last to the first stands at i
pub record Backward {S : Type 0} (step : ℕ → S → S) (s₀ : S) (pairs : List ℕ) (n i : ℕ) (s : S) : Type 0 where
  pub upto : i ≤ n
  pub so_far : s ≡ backward step (drop i (take n pairs)) s₀

pub back_start : {S : Type 0} {step : ℕ → S → S} {s : S} {pairs : List ℕ} {n : ℕ} → n ≤ length pairs → Backward step s pairs n n s
unfolding backward
back_start {pairs = pairs} {n = n} l =
    let h : length (take n pairs) ≤ n = omega (arith, length-take-le n pairs l) in
    record { upto = omega arith; so_far = rw (drop_of_length-le (take n pairs) h) }

module _ {S : Type 0} {step : ℕ → S → S} {s₀ : S} {pairs : List ℕ} {n i : ℕ} {s : S} (w : Backward step s₀ pairs n i s) where
  pub back_step : n ≤ length pairs → 0 < i → {s' : S} → s' ≡ step (get_or pairs (i - 1) 0) s → Backward step s₀ pairs n (i - 1) s'
  unfolding backward
  back_step u h {s'} e =
      let T = take n pairs in
      let l : i - 1 < length T = omega (arith, length-take-le n pairs u, w.upto) in
      let q : suc (i - 1) ≡ i = omega arith in
      let g : get_or T (i - 1) 0 ≡ get_or pairs (i - 1) 0 = get_or-take n pairs (i - 1) 0 (omega (arith, w.upto)) in
      record {
        upto = omega (arith, w.upto);
        so_far = e ∙ sym (ap (λ (x : List ℕ). backward step x s₀) (drop-cons T (i - 1) 0 l)
            ∙ ap (λ (k : ℕ). step k (backward step (drop (suc (i - 1)) T) s₀)) g
            ∙ ap (λ (k : ℕ). step (get_or pairs (i - 1) 0) (backward step (drop k T) s₀)) q
            ∙ ap (step (get_or pairs (i - 1) 0)) (sym w.so_far));
      }

  pub back_end : i ≤ 0 → s ≡ backward step (take n pairs) s₀
  back_end h = let z : i ≡ 0 = omega arith in w.so_far ∙ rw z

-- the loop that clears cells of a row
pub record Clearing (row₀ pairs : List ℕ) (n i : ℕ) (row : List ℕ) : Type 0 where
  pub upto : i ≤ n
  pub long : length row ≡ length row₀
  pub same : zeros (drop i (take n pairs)) row ≡ zeros (take n pairs) row₀

pub clearing-start : {row pairs : List ℕ} {n : ℕ} → Clearing row pairs n 0 row
clearing-start = record { upto = omega arith; long = refl; same = refl }

module _ {row₀ pairs : List ℕ} {n i : ℕ} {row : List ℕ} (o : Ones row₀ pairs n) (w : Clearing row₀ pairs n i row) where
  pub clearing-step : i < n → Clearing row₀ pairs n (i + 1) (set row (get_or pairs i 0) 0)
  unfolding zeros
  clearing-step h =
      let T = take n pairs in
      let l : i < length T = omega (arith, length-take-le n pairs o.upto) in
      let g : get_or T i 0 ≡ get_or pairs i 0 = get_or-take n pairs i 0 h in
      record {
        upto = omega arith;
        long = length-set row (get_or pairs i 0) 0 ∙ w.long;
        same = ap (λ (k : ℕ). zeros (drop k T) (set row (get_or pairs i 0) 0)) (add-one i)
            ∙ ap (λ (k : ℕ). zeros (drop (suc i) T) (set row k 0)) (sym g)
            ∙ ap (λ (x : List ℕ). zeros x row) (sym (drop-cons T i 0 l))
            ∙ w.same;
      }

  pub clearing-end : n ≤ i → row ≡ zeros (take n pairs) row₀
  unfolding zeros
  clearing-end h =
      let l : length (take n pairs) ≤ i = omega (arith, length-take-le n pairs o.upto) in
      sym (ap (λ (x : List ℕ). zeros x row) (drop_of_length-le (take n pairs) l)) ∙ w.same

-- 1 at each, in a row and what stands behind it
pub length-ones : (ks : List ℕ) (r : Row) → length (ones ks r) ≡ length r
unfolding backward
length-ones [] r = refl
length-ones (k ∷ ks) r = length-set (ones ks r) k 1 ∙ length-ones ks r

-- each number of a list is below m
abbrev pub Below : List ℕ → ℕ → Type 0
Below ks m = (i : ℕ) → i < length ks → get_or ks i 0 < m

pub ones-left : (ks : List ℕ) (e z : Row) → Below ks (length e) → ones ks (e ++ z) ≡ ones ks e ++ z
unfolding backward
ones-left [] e z h = refl
ones-left (k ∷ ks) e z h =
    ap (λ (x : Row). set x k 1) (ones-left ks e z (λ i l. h (suc i) (omega arith)))
    ∙ set-append_left (ones ks e) z k 1 (omega (arith, length-ones ks e, h 0 (omega arith)))

pub drop-ones : (ks : List ℕ) (m : ℕ) (r : Row) → Below ks m → drop m (ones ks r) ≡ drop m r
unfolding backward
drop-ones [] m r h = refl
drop-ones (k ∷ ks) m r h = drop-set-lt m (ones ks r) k 1 (h 0 (omega arith)) ∙ drop-ones ks m r (λ i l. h (suc i) (omega arith))

-- 0 at each
take-set : (m : ℕ) (r : List ℕ) (k x : ℕ) → take m (set r k x) ≡ set (take m r) k x
take-set zero r k x = refl
take-set (suc m) [] k x = refl
take-set (suc m) (y ∷ r) zero x = refl
take-set (suc m) (y ∷ r) (suc k) x = ap {B = List ℕ} (λ t. y ∷ t) (take-set m r k x)

pub take-zeros : (m : ℕ) (ks : List ℕ) (r : List ℕ) → take m (zeros ks r) ≡ zeros ks (take m r)
unfolding zeros
take-zeros m [] r = refl
take-zeros m (k ∷ ks) r = take-zeros m ks (set r k 0) ∙ ap (zeros ks) (take-set m r k 0)

pub length-zeros : (ks : List ℕ) (r : Row) → length (zeros ks r) ≡ length r
unfolding zeros
length-zeros [] r = refl
length-zeros (k ∷ ks) r = length-zeros ks (set r k 0) ∙ length-set r k 0

pub drop-zeros : (ks : List ℕ) (m : ℕ) (r : Row) → Below ks m → drop m (zeros ks r) ≡ drop m r
unfolding zeros
drop-zeros [] m r h = refl
drop-zeros (k ∷ ks) m r h = drop-zeros ks m (set r k 0) (λ i l. h (suc i) (omega arith)) ∙ drop-set-lt m r k 0 (h 0 (omega arith))
