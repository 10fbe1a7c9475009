-- Every list that the search goes to keeps the keys, made finer after an atom and its image were told apart; so where they differ, there is none. Assumes nothing.
use mathlib.Core.Path.{◌≡◌, refl, sym, ap, ◌∙◌, subst}
use mathlib.Core.Bool.{Bool, true, false, not}
use mathlib.Core.List.{List, [], ◌∷◌, ◌++◌, append-nil, append_assoc}
use Prim.Native.Nat.{ℕ, zero, suc, ◌+◌, ◌*◌, ◌<◌, ◌≤◌, ◌/◌, ◌%◌}
use native.Mathlib.Omega.{arith}
use native.Mathlib.Nat.{add-zero, mul-add-div, mul-add-mod_self_left, div-eq_of_lt, mod-eq_of_lt}
use lib.Dec.{eqb, ltb}
use lib.ListN.{length, get_or, set, drop, length-set, length-append, get_or-append}
use lib.Seq.{get_or-append_seam, get_or-set_same, get_or-set_other}
use borrow.Author.Tests.{eqb-true, eq-eqb, ne_eqb, eqb-false, ltb-true, ltb-false}
use Rattle.loops.specs.Loop.{pick, run, up_to, each}
use Rattle.loops.proofs.Loops.{and_left, and_right, each_at, length-up_to, filled_at}
use Rattle.matching.specs.Enumeration.{Row, passing}
use Rattle.matching.specs.Model.{some?, head_or}
use Rattle.matching.proofs.Graph.{and_intro, never}
use Rattle.same_model.specs.Same.{max_same, image, words}
use Rattle.same_model.proofs.Lists.{All, more, all_append, all-at, all_head, all-passing}
use Rattle.same_model.proofs.Words.{Word, words-all}
use Rattle.same_model.proofs.Totals.{total, run_more, run-total, total-same, total-permuted}
use Rattle.same_place.specs.Place.{entry, beside, placeable, good_from}
use Rattle.same_keys.specs.Keys.{prime, mixed, mixed_at, at, key_sum}
use Rattle.same_drawing.proofs.Fitting.{good-index}
use Rattle.same_finer.specs.Finer.{weight, weight_cell, mirror, times_low, next_key, rounded, rounded_again, finer, told, told_rounds, finer_told, Whole, Weighed, Keeps, ways_by}

not_back : (z : Bool) → not z ≡ true → z ≡ false
not_back true h = absurd (never false h refl)
not_back false h = refl

-- weights that were filled in, the same both ways
pub weighed : (o w : List ℕ) (n : ℕ) (rest : List ℕ) → n ≤ max_same → w ≡ up_to (weight_cell o) 0 (max_same * n) ++ rest → each (mirror w) 0 (max_same * n) ≡ true → Weighed o n w
weighed o w n rest few e m =
    record {
      at = λ a b la lb.
          filled_at (weight_cell o) (max_same * n) (max_same * a + b) 0 w rest e (omega arith)
          ∙ ap (λ (k : ℕ). pick (eqb k ((max_same * a + b) % max_same)) 0 (weight (get_or o (max_same * a + b) 0))) (row a b (omega arith))
          ∙ ap (λ (k : ℕ). pick (eqb a k) 0 (weight (get_or o (max_same * a + b) 0))) (column a b (omega arith));
      turned = λ a b la lb.
          eqb-true (entry w a b) (get_or w (max_same * ((max_same * a + b) % max_same) + (max_same * a + b) / max_same) 0) (each_at (mirror w) (max_same * n) (max_same * a + b) m (omega arith))
          ∙ ap (λ (k : ℕ). get_or w (max_same * ((max_same * a + b) % max_same) + k) 0) (row a b (omega arith))
          ∙ ap (λ (k : ℕ). get_or w (max_same * k + a) 0) (column a b (omega arith));
    }
  where
    row : (a b : ℕ) → b < max_same → (max_same * a + b) / max_same ≡ a
    row a b h = mul-add-div {m = max_same} (omega arith) a b ∙ ap (λ (k : ℕ). a + k) (div-eq_of_lt {n = b} {m = max_same} h) ∙ add-zero a

    column : (a b : ℕ) → b < max_same → (max_same * a + b) % max_same ≡ b
    column a b h = mul-add-mod_self_left max_same a b ∙ mod-eq_of_lt {n = b} {m = max_same} h

-- a round, as it is written; there are keys for all atoms
pub as-rounded : (w : List ℕ) (n : ℕ) (keys : List ℕ) {k : List ℕ} → k ≡ up_to (next_key w n keys) 0 n ++ drop n keys → k ≡ rounded w n keys
unfolding rounded
as-rounded w n keys e = e

pub rounded-long : (u : List ℕ) (n : ℕ) (k : List ℕ) → n ≤ length (rounded u n k)
unfolding rounded
rounded-long u n k = let e = length-append (up_to (next_key u n k) 0 n) (drop n k) in let f = length-up_to (next_key u n k) 0 n in omega arith

run_long : (u : List ℕ) (n i r : ℕ) (k : List ℕ) → n ≤ length k → n ≤ length (run (rounded_again u n) i r k)
unfolding run
run_long u n i zero k l = l
run_long u n i (suc r) k l = run_long u n (suc i) r (rounded u n k) (rounded-long u n k)

pub finer-long : (u : List ℕ) (n r : ℕ) (k : List ℕ) → n ≤ length k → n ≤ length (finer u n r k)
unfolding finer
finer-long u n r k l = run_long u n 0 r k l

pub told-long : (u : List ℕ) (n : ℕ) (k : List ℕ) (v : ℕ) → n ≤ length k → n ≤ length (finer_told u n k v)
unfolding finer_told
told-long u n k v l = finer-long u n told_rounds (told k v) (simp length-set l)

-- one list after the other
good-append : (o1 o2 ok q r s : List ℕ) → good_from o1 o2 ok q r ≡ true → good_from o1 o2 ok (q ++ r) s ≡ true → good_from o1 o2 ok q (r ++ s) ≡ true
unfolding good_from
good-append o1 o2 ok q [] s h g = subst (λ (u : List ℕ). good_from o1 o2 ok u s ≡ true) (append-nil q) g
good-append o1 o2 ok q (d ∷ r) s h g =
    and_intro (placeable o1 o2 ok q (length q) d) (good_from o1 o2 ok (q ++ (d ∷ [])) (r ++ s)) (and_left (placeable o1 o2 ok q (length q) d) (good_from o1 o2 ok (q ++ (d ∷ [])) r) h)
    (good-append o1 o2 ok (q ++ (d ∷ [])) r s (and_right (placeable o1 o2 ok q (length q) d) (good_from o1 o2 ok (q ++ (d ∷ [])) r) h) (subst (λ (u : List ℕ). good_from o1 o2 ok u s ≡ true) (sym (append_assoc q (d ∷ []) r)) g))

pub good-next : (o1 o2 ok p : List ℕ) (d : ℕ) → good_from o1 o2 ok [] p ≡ true → placeable o1 o2 ok p (length p) d ≡ true → good_from o1 o2 ok [] (p ++ (d ∷ [])) ≡ true
unfolding good_from
good-next o1 o2 ok p d h g = good-append o1 o2 ok [] p (d ∷ []) h (and_intro (placeable o1 o2 ok p (length p) d) true g refl)

-- what holds of a list to which the search goes
module _ (o1 o2 ok : List ℕ) (n : ℕ) (t : List ℕ) (w : Whole o1 o2 ok n t) where
  each_placed : (a : ℕ) → a < n → placeable o1 o2 ok t a (image t a) ≡ true
  each_placed a l = each_at (λ a. placeable o1 o2 ok t a (image t a)) (length t) a (sym (good-index o1 o2 ok [] t) ∙ w.good) (omega (arith, w.size))

  pub may : (a : ℕ) → a < n → entry ok a (image t a) ≡ 1
  unfolding placeable
  may a l = eqb-true (entry ok a (image t a)) 1 (and_left (eqb (entry ok a (image t a)) 1) (each (beside o1 o2 t a (image t a)) 0 a) (each_placed a l))

  beside_at : (a b : ℕ) → a < n → b < a → beside o1 o2 t a (image t a) b ≡ true
  unfolding placeable
  beside_at a b l i = each_at (beside o1 o2 t a (image t a)) a b (and_right (eqb (entry ok a (image t a)) 1) (each (beside o1 o2 t a (image t a)) 0 a) (each_placed a l)) i

  differ : (a b : ℕ) → a < n → b < a → image t b ≡ image t a → ⊥
  differ a b l i = eqb-false (image t b) (image t a) (not_back (eqb (image t b) (image t a)) (and_left (not (eqb (image t b) (image t a))) (eqb (entry o1 a b) (entry o2 (image t a) (image t b))) (beside_at a b l i)))

  pub agree : (a b : ℕ) → a < n → b < a → entry o1 a b ≡ entry o2 (image t a) (image t b)
  agree a b l i = eqb-true (entry o1 a b) (entry o2 (image t a) (image t b)) (and_right (not (eqb (image t b) (image t a))) (eqb (entry o1 a b) (entry o2 (image t a) (image t b))) (beside_at a b l i))

  pub one : (a b : ℕ) → a < n → b < n → image t a ≡ image t b → a ≡ b
  one a b la lb q = go (ltb b a) (ltb a b) refl refl
    where
      go : (p u : Bool) → ltb b a ≡ p → ltb a b ≡ u → a ≡ b
      go true u i j = absurd (differ a b la (ltb-true b a i) (sym q))
      go false true i j = absurd (differ b a lb (ltb-true a b j) q)
      go false false i j = let k = ltb-false b a i in let z = ltb-false a b j in omega arith

  module _ {w1 w2 : List ℕ} (v1 : Weighed o1 n w1) (v2 : Weighed o2 n w2) where
    lower : (a b : ℕ) → a < n → b < a → entry w1 a b ≡ entry w2 (image t a) (image t b)
    lower a b l i =
        v1.at a b l (omega arith)
        ∙ ap (λ (z : Bool). pick z 0 (weight (entry o1 a b))) (ne_eqb a b (λ e. omega arith))
        ∙ ap weight (agree a b l i)
        ∙ sym (v2.at (image t a) (image t b) (w.below a l) (w.below b (omega arith)) ∙ ap (λ (z : Bool). pick z 0 (weight (entry o2 (image t a) (image t b)))) (ne_eqb (image t a) (image t b) (λ e. differ a b l i (sym e))))

    carried : (a b : ℕ) → a < n → b < n → entry w1 a b ≡ entry w2 (image t a) (image t b)
    carried a b la lb = go (ltb b a) (ltb a b) refl refl
      where
        self : (o : List ℕ) {u : List ℕ} (v : Weighed o n u) (c : ℕ) → c < n → entry u c c ≡ 0
        self o v c l = v.at c c l l ∙ ap (λ (z : Bool). pick z 0 (weight (entry o c c))) (eq-eqb c c refl)

        go : (p q : Bool) → ltb b a ≡ p → ltb a b ≡ q → entry w1 a b ≡ entry w2 (image t a) (image t b)
        go true q i j = lower a b la (ltb-true b a i)
        go false true i j = v1.turned a b la lb ∙ lower b a lb (ltb-true a b j) ∙ v2.turned (image t b) (image t a) (w.below b lb) (w.below a la)
        go false false i j =
            let u = ltb-false b a i in
            let z = ltb-false a b j in
            let k : a ≡ b = omega arith in
            rw k (self o1 v1 b lb ∙ sym (self o2 v2 (image t b) (w.below b lb)))

    -- keys that t keeps
    record Kept (k1 k2 : List ℕ) : Type 0 where
      long1 : n ≤ length k1
      long2 : n ≤ length k2
      kept : (a : ℕ) → a < n → at k1 a ≡ at k2 (image t a)

    next-kept : (k1 k2 : List ℕ) → Kept k1 k2 → (a : ℕ) → a < n → next_key w1 n k1 a ≡ next_key w2 n k2 (image t a)
    unfolding next_key
    next-kept k1 k2 k a l =
        run_more (λ (b : ℕ). times_low (entry w1 a b) (mixed (at k1 b))) n (at k1 a % prime)
        ∙ (λ i. k.kept a l i % prime + sums i)
        ∙ sym (run_more (λ (b : ℕ). times_low (entry w2 (image t a) b) (mixed (at k2 b))) n (at k2 (image t a) % prime))
      where
        sums : total (λ b. times_low (entry w1 a b) (mixed (at k1 b))) n ≡ total (λ b. times_low (entry w2 (image t a) b) (mixed (at k2 b))) n
        sums =
            total-same (λ b. times_low (entry w1 a b) (mixed (at k1 b))) (λ b. times_low (entry w2 (image t a) (image t b)) (mixed (at k2 (image t b)))) n (λ b h. λ i. times_low (carried a b l h i) (mixed (k.kept b h i)))
            ∙ total-permuted n (image t) w.below one (λ b. times_low (entry w2 (image t a) b) (mixed (at k2 b)))

    rounded-at : (u k : List ℕ) (a : ℕ) → a < n → at (rounded u n k) a ≡ next_key u n k a
    unfolding rounded
    rounded-at u k a l = filled_at (next_key u n k) n a 0 (up_to (next_key u n k) 0 n ++ drop n k) (drop n k) refl l

    rounded-kept : (k1 k2 : List ℕ) → Kept k1 k2 → Kept (rounded w1 n k1) (rounded w2 n k2)
    rounded-kept k1 k2 k =
        record {
          long1 = rounded-long w1 n k1;
          long2 = rounded-long w2 n k2;
          kept = λ a l. rounded-at w1 k1 a l ∙ next-kept k1 k2 k a l ∙ sym (rounded-at w2 k2 (image t a) (w.below a l));
        }

    run-kept : (i r : ℕ) (k1 k2 : List ℕ) → Kept k1 k2 → Kept (run (rounded_again w1 n) i r k1) (run (rounded_again w2 n) i r k2)
    unfolding run
    run-kept i zero k1 k2 k = k
    run-kept i (suc r) k1 k2 k = run-kept (suc i) r (rounded w1 n k1) (rounded w2 n k2) (rounded-kept k1 k2 k)

    finer-kept : (r : ℕ) (k1 k2 : List ℕ) → Kept k1 k2 → Kept (finer w1 n r k1) (finer w2 n r k2)
    unfolding finer
    finer-kept r k1 k2 k = run-kept 0 r k1 k2 k

    told-kept : (v : ℕ) → v < n → (k1 k2 : List ℕ) → Kept k1 k2 → Kept (told k1 v) (told k2 (image t v))
    told-kept v l k1 k2 k =
        record {
          long1 = simp length-set k.long1;
          long2 = simp length-set k.long2;
          kept = λ a h. go a h (eqb a v) refl;
        }
      where
        go : (a : ℕ) → a < n → (z : Bool) → eqb a v ≡ z → at (told k1 v) a ≡ at (told k2 (image t v)) (image t a)
        go a h true e =
            let q : a ≡ v = eqb-true a v e in
            rw q (get_or-set_same k1 v (at k1 v % prime + 1000003) 0 (omega (arith, k.long1)) ∙ ap (λ (z : ℕ). z % prime + 1000003) (k.kept v l)
            ∙ sym (get_or-set_same k2 (image t v) (at k2 (image t v) % prime + 1000003) 0 (omega (arith, k.long2, w.below v l))))
        go a h false e =
            let q = eqb-false a v e in
            get_or-set_other k1 v a (at k1 v % prime + 1000003) 0 q ∙ k.kept a h
            ∙ sym (get_or-set_other k2 (image t v) (image t a) (at k2 (image t v) % prime + 1000003) 0 (λ u. q (one a v h l u)))

    sum_kept : (k1 k2 : List ℕ) → Kept k1 k2 → key_sum k1 n ≡ key_sum k2 n
    unfolding key_sum
    sum_kept k1 k2 k =
        run-total (mixed_at k1) n
        ∙ total-same (mixed_at k1) (λ a. mixed_at k2 (image t a)) n (λ a l. ap mixed (k.kept a l))
        ∙ total-permuted n (image t) w.below one (mixed_at k2)
        ∙ sym (run-total (mixed_at k2) n)

module _ {o1 o2 ok : List ℕ} {n : ℕ} {w1 w2 : List ℕ} (v1 : Weighed o1 n w1) (v2 : Weighed o2 n w2) where
  -- finer keys are kept
  pub keeps-finer : {ren k1 k2 : List ℕ} {from : ℕ} (r : ℕ) → Keeps o1 o2 ok n ren from k1 k2 → Keeps o1 o2 ok n ren from (finer w1 n r k1) (finer w2 n r k2)
  keeps-finer {ren} {k1} {k2} {from} r k =
      record {
        long1 = finer-long w1 n r k1 k.long1;
        long2 = finer-long w2 n r k2 k.long2;
        kept = λ t w h. (finer-kept o1 o2 ok n t w v1 v2 r k1 k2 (record { long1 = k.long1; long2 = k.long2; kept = k.kept t w h })).kept;
      }

  -- and so they are with one atom more told apart, and its image
  pub keeps-told : {ren k1 k2 : List ℕ} {from : ℕ} (d : ℕ) → Keeps o1 o2 ok n ren from k1 k2 → from < n → from < length ren → Keeps o1 o2 ok n (set ren from d) (from + 1) (finer_told w1 n k1 from) (finer_told w2 n k2 d)
  unfolding finer_told
  keeps-told {ren} {k1} {k2} {from} d k l room =
      record {
        long1 = finer-long w1 n told_rounds (told k1 from) (simp length-set k.long1);
        long2 = finer-long w2 n told_rounds (told k2 d) (simp length-set k.long2);
        kept = λ t w h.
            let e : image t from ≡ d = h from (omega arith) ∙ get_or-set_same ren from d 0 room in
            let g : Kept o1 o2 ok n t w v1 v2 k1 k2 = record { long1 = k.long1; long2 = k.long2; kept = k.kept t w (λ b i. h b (omega arith) ∙ get_or-set_other ren from b d 0 (λ q. omega arith)) } in
            subst (λ (u : ℕ). (a : ℕ) → a < n → at (finer w1 n told_rounds (told k1 from)) a ≡ at (finer w2 n told_rounds (told k2 u)) (image t a)) e
            (finer-kept o1 o2 ok n t w v1 v2 told_rounds (told k1 from) (told k2 (image t from)) (told-kept o1 o2 ok n t w v1 v2 from l k1 k2 g)).kept;
      }

  -- sums that differ: no list is left
  pub unlike-sums : {ren k1 k2 : List ℕ} {from : ℕ} → Keeps o1 o2 ok n ren from k1 k2 → (key_sum k1 n ≡ key_sum k2 n → ⊥) → (t : List ℕ) → Whole o1 o2 ok n t → ((b : ℕ) → b < from → image t b ≡ image ren b) → ⊥
  unlike-sums {ren} {k1} {k2} k h t w e = h (sum_kept o1 o2 ok n t w v1 v2 k1 k2 (record { long1 = k.long1; long2 = k.long2; kept = k.kept t w e }))

-- a list of lists that has no head
none-there : (l : List Row) → (some? l ≡ true → ⊥) → l ≡ []
none-there [] h = refl
none-there (t ∷ l) h = absurd (h refl)

-- no list is left with x next: no way on
module _ (o1 o2 ok : List ℕ) (n : ℕ) (p : List ℕ) (k : ℕ) (size : length p + suc k ≡ n) (low : All (λ d. d < n) p) (good : good_from o1 o2 ok [] p ≡ true) where
  whole : (x : ℕ) (s : List ℕ) → x < n → Word n k s → good_from o1 o2 ok p (x ∷ s) ≡ true → Whole o1 o2 ok n (p ++ (x ∷ s))
  whole x s l w g =
      let e : length (p ++ (x ∷ s)) ≡ n = length-append p (x ∷ s) ∙ omega (arith, w.size) in
      record {
        size = e;
        below = λ a h. all-at 0 (all_append low (more l w.below)) a (omega arith);
        good = good-append o1 o2 ok [] p (x ∷ s) good g;
      }

  pub none-by : (x : ℕ) → x < n → ((t : List ℕ) → Whole o1 o2 ok n t → ((b : ℕ) → b < length p → image t b ≡ image p b) → image t (length p) ≡ x → ⊥) → ways_by o1 o2 ok n p k x ≡ []
  unfolding ways_by
  none-by x l f =
      none-there (passing (λ s. good_from o1 o2 ok p (x ∷ s)) (words n k))
      (λ q.
      let h = all_head [] (all-passing (λ s. good_from o1 o2 ok p (x ∷ s)) (words-all n k)) q in
      let s = head_or [] (passing (λ s. good_from o1 o2 ok p (x ∷ s)) (words n k)) in
      f (p ++ (x ∷ s)) (whole x s l h.0 h.1) (λ b i. get_or-append p (x ∷ s) 0 b i) (get_or-append_seam p x s 0))
