-- The rows of an enumeration walked by the two calls: what is left of the list leads to the same. Assumes nothing.
use mathlib.Core.Path.{◌≡◌, refl, sym, ap, ◌∙◌}
use mathlib.Core.Bool.{Bool, true, false, ◌&&◌}
use mathlib.Core.List.{List, [], ◌∷◌}
use Prim.Native.Nat.{ℕ, zero, suc, ◌-◌, ◌<◌, ◌≤◌}
use native.Mathlib.Omega.{arith}
use lib.Dec.{eqb, ltb}
use lib.ListN.{length, take, replicate, length-append, length-replicate}
use mathlib.Core.Path.{subst}
use lib.Seq.{take_at, take-take}
use borrow.Author.Tests.{eq-eqb, ne_eqb, eqb-true, lt-ltb, ltb-true}
use Rattle.loops.specs.Loop.{pick}
use Rattle.loops.proofs.Loops.{and_left, and_right}
use Rattle.matching.specs.Enumeration.{Row, rows, passing, cons_if, matchings, fill, zeroed, given, is_row, before, or_zeroed, row_call}
use Rattle.matching.specs.declared.MatchingAnswer.{MatchingAnswer}
use Rattle.matching.specs.declared.MatchingAnswer.TheVariants.{Absent, Ended}
use Rattle.matching.specs.declared.Call.TheVariants.{First, Next}
use Rattle.matching.proofs.Enumeration.{after, first-matching, passing-same, row-length}
use Rattle.matching.proofs.Graph.{and_intro, never}
use Rattle.same_model.proofs.Lists.{All, all_append, all_map}
use Rattle.same_model.proofs.Lists as Lists
use Rattle.same_drawing.proofs.Fitting.{passing-agree, passing-both}
use Rattle.same_decide.specs.Decide.{handed_out, HandsOut}

-- the order of rows is transitive
less : (x z : ℕ) (rest : Bool) → z < x → pick (eqb x z) rest (ltb z x) ≡ true
less x z rest h = rw (ne_eqb x z (λ (e : x ≡ z). omega arith)) (lt-ltb z x h)

before-step : (x y z : ℕ) (rs st rt : Bool) (b c : Bool) → eqb x y ≡ b → eqb y z ≡ c → pick b rs (ltb y x) ≡ true → pick c st (ltb z y) ≡ true
    → (rs ≡ true → st ≡ true → rt ≡ true) → pick (eqb x z) rt (ltb z x) ≡ true
before-step x y z rs st rt true true e f h k ih = rw (eq-eqb x z (eqb-true x y e ∙ eqb-true y z f)) (ih h k)
before-step x y z rs st rt true false e f h k ih = less x z rt (omega (arith, eqb-true x y e, ltb-true z y k))
before-step x y z rs st rt false true e f h k ih = less x z rt (omega (arith, eqb-true y z f, ltb-true y x h))
before-step x y z rs st rt false false e f h k ih = less x z rt (omega (arith, ltb-true z y k, ltb-true y x h))

before-trans : (r s t : Row) → before r s ≡ true → before s t ≡ true → before r t ≡ true
unfolding before
before-trans [] s t h k = h
before-trans (x ∷ r) [] t h k = cc
before-trans (x ∷ r) (y ∷ s) [] h k = cc
before-trans (x ∷ r) (y ∷ s) (z ∷ t) h k = before-step x y z (before r s) (before s t) (before r t) (eqb x y) (eqb y z) refl refl h k (before-trans r s t)

after-after : (p : Row → Bool) (r f : Row) → before r f ≡ true → (s : Row) → after (after p r) f s ≡ after p f s
after-after p r f h s = go (p s) (before r s) (before f s) (before-trans r f s h)
  where
    go : (a b c : Bool) → (c ≡ true → b ≡ true) → ((a && b) && c) ≡ (a && c)
    go true true c i = refl
    go true false true i = i refl
    go true false false i = refl
    go false b c i = refl

-- rows are rows
pub rows_all : (m : ℕ) → All (λ s. is_row m s ≡ true) (rows m)
unfolding rows is_row
rows_all zero = Lists.more refl Lists.none
rows_all (suc m) = all_append (all_map (λ r. 1 ∷ r) (rows_all m) (λ r h. h)) (all_map (λ r. 0 ∷ r) (rows_all m) (λ r h. h))

-- of two rows that differ before k, the first k numbers of one tell which comes first
before-cut : (k : ℕ) (r s : Row) → (take k s ≡ take k r → ⊥) → before r s ≡ before (take k r) s
unfolding before
before-cut zero r s h = absurd (h refl)
before-cut (suc k) [] s h = refl
before-cut (suc k) (x ∷ r) [] h = refl
before-cut (suc k) (x ∷ r) (y ∷ s) h = go (eqb x y) refl (before-cut k r s)
  where
    go : (z : Bool) → eqb x y ≡ z → ((take k s ≡ take k r → ⊥) → before r s ≡ before (take k r) s) → pick z (before r s) (ltb y x) ≡ pick z (before (take k r) s) (ltb y x)
    go true e i = i (λ q. h (ap (λ (l : Row). y ∷ l) q ∙ ap (λ (i : ℕ). i ∷ take k r) (sym (eqb-true x y e))))
    go false e i = refl

-- a row that comes after the first k numbers of another comes after it
before-longer : (k : ℕ) (r s : Row) → before (take k r) s ≡ true → before r s ≡ true
unfolding before
before-longer zero r s h = absurd (never false h refl)
before-longer (suc k) [] s h = h
before-longer (suc k) (x ∷ r) [] h = h
before-longer (suc k) (x ∷ r) (y ∷ s) h = go (eqb x y) h (before-longer k r s)
  where
    go : (z : Bool) → pick z (before (take k r) s) (ltb y x) ≡ true → (before (take k r) s ≡ true → before r s ≡ true) → pick z (before r s) (ltb y x) ≡ true
    go true e i = i e
    go false e i = e

-- a test that lets more pass
passing-fewer : (p q : Row → Bool) → ((s : Row) → p s ≡ true → q s ≡ true) → (l : List Row) → length (passing p l) ≤ length (passing q l)
unfolding passing
passing-fewer p q h [] = omega arith
passing-fewer p q h (r ∷ l) = go (p r) (q r) (h r) (passing-fewer p q h l)
  where
    go : (y z : Bool) → (y ≡ true → z ≡ true) → length (passing p l) ≤ length (passing q l) → length (cons_if y r (passing p l)) ≤ length (cons_if z r (passing q l))
    go true true i e = omega arith
    go true false i e = absurd (never false (i refl) refl)
    go false true i e = omega arith
    go false false i e = e

-- the row at hand with those after it; none where no row is at hand
abbrev pub rest : (Row → Bool) → ℕ → Bool → Row → List Row
rest p m more row = pick more (take m row ∷ matchings (after p (take m row)) m) []

-- the walk over the rows that pass T stands at a row
pub record Walking (p : Row → Bool) (m : ℕ) (T : Row → Bool) (len : ℕ) (more : Bool) (row : Row) : Type 0 where
  pub long : length row ≡ len
  pub same : passing T (matchings p m) ≡ passing T (rest p m more row)
  pub filled : more ≡ true → row ≡ fill len (take m row)
  pub good : more ≡ true → (is_row m (take m row) && p (take m row)) ≡ true

take_all : {m : ℕ} {s : Row} → length s ≡ m → take m s ≡ s
take_all {m} {s} h = go m s h
  where
    go : (m : ℕ) (s : Row) → length s ≡ m → take m s ≡ s
    go zero [] h = refl
    go zero (x ∷ s) h = absurd (omega arith)
    go (suc m) [] h = refl
    go (suc m) (x ∷ s) h = ap (λ (l : Row). x ∷ l) (go m s (omega arith))

no : {A : Type 0} → ◌≡◌ {A = Bool} false true → A
no h = absurd (never false h refl)

module _ (p : Row → Bool) (m : ℕ) (T : Row → Bool) (len : ℕ) (fit : m ≤ len) where
  -- a zeroed row ends the walk
  ended : (a : MatchingAnswer) → handed_out a ≡ false → passing T (matchings p m) ≡ [] → {r : Bool} {row : Row} → HandsOut (zeroed len a) r row → Walking p m T len r row
  unfolding passing
  ended a h e {r} {row} w =
      let q : r ≡ false = w.told ∙ h in
      record {
        long = ap length w.wrote ∙ length-replicate len 0;
        same = e ∙ sym (ap (λ (z : Bool). passing T (rest p m z row)) q);
        filled = λ k. no (sym q ∙ k);
        good = λ k. no (sym q ∙ k);
      }

  -- a row given goes on
  goes_on : (e : Row) → is_row m e ≡ true → p e ≡ true → passing T (matchings p m) ≡ passing T (e ∷ matchings (after p e) m) → {r : Bool} {row : Row} → HandsOut (given len e) r row → Walking p m T len r row
  goes_on e i g s {r} {row} w =
      let size : length e ≡ m = row-length m e i in
      let t : take m row ≡ e = ap (take m) w.wrote ∙ take_at e (replicate (len - length e) 0) m size in
      record {
        long = ap length w.wrote ∙ length-append e (replicate (len - length e) 0) ∙ rw (length-replicate) (omega arith);
        same = s ∙ sym (ap (λ (z : Bool). passing T (rest p m z row)) w.told ∙ ap (λ (u : Row). passing T (u ∷ matchings (after p u) m)) t);
        filled = λ k. w.wrote ∙ ap (fill len) (sym t);
        good = λ k. rw t (and_intro (is_row m e) (p e) i g);
      }

  pub walking-first : (row₀ : Row) → length row₀ ≡ len → {r : Bool} {row : Row} → HandsOut (row_call p m First row₀) r row → Walking p m T len r row
  unfolding row_call passing
  walking-first row₀ l {r} {row} w = go (matchings p m) refl (rw l at w)
    where
      go : (es : List Row) → matchings p m ≡ es → HandsOut (or_zeroed len Absent (matchings p m)) r row → Walking p m T len r row
      go [] e w = ended Absent refl (ap (passing T) e) (rw e at w)
      go (f ∷ es) e w =
          let k = first-matching p m f es e in
          goes_on f (and_left (is_row m f) (p f) k.0) (and_right (is_row m f) (p f) k.0) (ap (passing T) (e ∙ ap (λ (l : List Row). f ∷ l) k.1)) (rw e at w)

  module _ {more : Bool} {row : Row} (v : Walking p m T len more row) (h : more ≡ true) where
    abbrev at : Row
    at = take m row

    here : passing T (matchings p m) ≡ passing T (take m row ∷ matchings (after p (take m row)) m)
    here = v.same ∙ ap (λ (z : Bool). passing T (rest p m z row)) h

    -- the row passes: it is the first
    pub walking-hit : T (take m row) ≡ true → passing T (matchings p m) ≡ take m row ∷ passing T (matchings (after p (take m row)) m)
    unfolding passing
    walking-hit e = here ∙ ap (λ (z : Bool). cons_if z (take m row) (passing T (matchings (after p (take m row)) m))) e

    -- the rows that begin as this one does, up to `to`, do not pass: those that differ from it before lead to the same
    module _ (to : ℕ) (upto : to ≤ m) (e : (s : Row) → is_row m s ≡ true → p s ≡ true → take to s ≡ take to (take m row) → T s ≡ false) where
      cut : take to (take m row) ≡ take to row
      cut = take-take to m row upto

      skips : passing T (matchings (after p (take m row)) m) ≡ passing T (matchings (after p (take to row)) m)
      skips =
          passing-both T (after p (take m row)) (rows m)
          ∙ passing-agree (λ s. after p (take m row) s && T s) (λ s. after p (take to row) s && T s) (λ s i. go s i (p s) (T s) refl refl) (rows_all m)
          ∙ sym (passing-both T (after p (take to row)) (rows m))
        where
          go : (s : Row) → is_row m s ≡ true → (y z : Bool) → p s ≡ y → T s ≡ z → ((y && before (take m row) s) && z) ≡ ((y && before (take to row) s) && z)
          go s i true true f g = ap (λ (b : Bool). b && true) (before-cut to (take m row) s (λ q. never false (sym (e s i f q) ∙ g) refl) ∙ ap (λ (l : Row). before l s) cut)
          go s i true false f g = and-false (before (take m row) s) ∙ sym (and-false (before (take to row) s))
            where
              and-false : (b : Bool) → (b && false) ≡ false
              and-false true = refl
              and-false false = refl
          go s i false z f g = refl

      passed : passing T (matchings p m) ≡ passing T (matchings (after p (take to row)) m)
      unfolding passing
      passed =
          here
          ∙ ap (λ (z : Bool). cons_if z (take m row) (passing T (matchings (after p (take m row)) m))) (e (take m row) (and_left (is_row m (take m row)) (p (take m row)) (v.good h)) (and_right (is_row m (take m row)) (p (take m row)) (v.good h)) refl)
          ∙ skips

      pub walking_skip : {r : Bool} {row' : Row} → HandsOut (or_zeroed len Ended (matchings (after p (take to row)) m)) r row' → Walking p m T len r row'
      unfolding passing
      walking_skip {r} {row'} w = go (matchings (after p (take to row)) m) refl w
        where
          go : (es : List Row) → matchings (after p (take to row)) m ≡ es → HandsOut (or_zeroed len Ended (matchings (after p (take to row)) m)) r row' → Walking p m T len r row'
          go [] q w = ended Ended refl (passed ∙ ap (passing T) q) (rw q at w)
          go (f ∷ es) q w =
              let k = first-matching (after p (take to row)) m f es q in
              let i = and_left (is_row m f) (after p (take to row) f) k.0 in
              let g = and_right (is_row m f) (after p (take to row) f) k.0 in
              goes_on f i (and_left (p f) (before (take to row) f) g)
              (passed ∙ ap (passing T) (q ∙ ap (λ (l : List Row). f ∷ l) (k.1 ∙ passing-same (after (after p (take to row)) f) (after p f) (after-after p (take to row) f (and_right (p f) (before (take to row) f) g)) (rows m))))
              (rw q at w)

      -- fewer rows are left
      pub skip-fewer : {r : Bool} {row' : Row} → HandsOut (or_zeroed len Ended (matchings (after p (take to row)) m)) r row' → length (rest p m r row') < length (rest p m more row)
      skip-fewer {r} {row'} w = rw h (go (matchings (after p (take to row)) m) refl w)
        where
          less : length (matchings (after p (take to row)) m) ≤ length (matchings (after p (take m row)) m)
          less = passing-fewer (after p (take to row)) (after p (take m row)) (λ s k. and_intro (p s) (before (take m row) s) (and_left (p s) (before (take to row) s) k) (before-longer to (take m row) s (ap (λ (l : Row). before l s) cut ∙ and_right (p s) (before (take to row) s) k))) (rows m)

          go : (es : List Row) → matchings (after p (take to row)) m ≡ es → HandsOut (or_zeroed len Ended (matchings (after p (take to row)) m)) r row' → length (rest p m r row') < suc (length (matchings (after p (take m row)) m))
          go [] q w = let z : r ≡ false = rw q at w.told in rw z (omega arith)
          go (f ∷ es) q w =
              let k = first-matching (after p (take to row)) m f es q in
              let i = and_left (is_row m f) (after p (take to row) f) k.0 in
              let g = and_right (is_row m f) (after p (take to row) f) k.0 in
              let u : HandsOut (given len f) r row' = rw q at w in
              let t : take m row' ≡ f = ap (take m) u.wrote ∙ take_at f (replicate (len - length f) 0) m (row-length m f i) in
              let z : r ≡ true = u.told in
              let s : matchings (after p f) m ≡ es = sym (k.1 ∙ passing-same (after (after p (take to row)) f) (after p f) (after-after p (take to row) f (and_right (p f) (before (take to row) f) g)) (rows m)) in
              let l : length (f ∷ es) ≤ length (matchings (after p (take m row)) m) = subst (λ (x : List Row). length x ≤ length (matchings (after p (take m row)) m)) q less in
              rw (z, t, s) (omega (arith, l))

    -- the row itself does not pass
    module _ (e : T (take m row) ≡ false) where
      only : (s : Row) → is_row m s ≡ true → p s ≡ true → take m s ≡ take m (take m row) → T s ≡ false
      only s i f q = ap T (sym (whole s i) ∙ q ∙ take-take m m row (omega arith)) ∙ e
        where
          whole : (s : Row) → is_row m s ≡ true → take m s ≡ s
          whole s i = take_all (row-length m s i)

      next-reply : {r : Bool} {row' : Row} → HandsOut (row_call p m Next row) r row' → HandsOut (or_zeroed len Ended (matchings (after p (take m row)) m)) r row'
      unfolding row_call
      next-reply {r} {row'} w = rw (v.good h, v.long) at w

      pub walking-next : {r : Bool} {row' : Row} → HandsOut (row_call p m Next row) r row' → Walking p m T len r row'
      walking-next w = walking_skip m (omega arith) only (next-reply w)

      -- one row fewer is left
      pub fewer : {r : Bool} {row' : Row} → HandsOut (row_call p m Next row) r row' → length (rest p m r row') < length (rest p m more row)
      fewer w = skip-fewer m (omega arith) only (next-reply w)

  pub walking-end : {more : Bool} {row : Row} → Walking p m T len more row → more ≡ false → passing T (matchings p m) ≡ []
  unfolding passing
  walking-end {more} {row} v h = v.same ∙ ap (λ (z : Bool). passing T (rest p m z row)) h

-- an answer for a row that is as long
pub skip-reply : {n len : ℕ} (fs : List Row) → n ≡ len → {r : Bool} {row : Row} → HandsOut (or_zeroed n Ended fs) r row → HandsOut (or_zeroed len Ended fs) r row
skip-reply fs e {r} {row} w = subst (λ (k : ℕ). HandsOut (or_zeroed k Ended fs) r row) e w

-- the first call leaves the row as long as it was
pub first-length : (p : Row → Bool) (m : ℕ) (row₀ : Row) → m ≤ length row₀ → {r : Bool} {row : Row} → HandsOut (row_call p m First row₀) r row → length row ≡ length row₀
first-length p m row₀ fit w = (walking-first p m (λ s. true) (length row₀) fit row₀ refl w).long
