-- Laws of the search under a budget: choosing a bond, going along the bonds, and what follows on its answer. Assumes nothing.
use mathlib.Core.Path.{◌≡◌, refl, sym, ap, subst, ◌∙◌}
use mathlib.Core.Bool.{Bool, true, false}
use mathlib.Core.List.{List, [], ◌∷◌, ◌++◌, map, append-nil}
use Prim.Native.Nat.{ℕ, zero, suc, ◌+◌, ◌-◌, ◌≤◌, ◌<◌}
use native.Mathlib.Omega.{arith}
use native.Mathlib.Numerals.{add-one}
use lib.ListN.{length, take, drop, replicate, set, length-set}
use lib.Seq.{drop-set-lt}
use Rattle.matching.specs.Enumeration.{Row}
use Rattle.matching.specs.Graph.{none_flagged}
use Rattle.matching.specs.Model.{Shape, Searched, all_from, free_at, mark_at, some?, head_or}
use Rattle.matching_search.proofs.Flags.{restore}
use Rattle.matching_search.proofs.Choice.{at-end, all-step, with-one, with-zero}
use Rattle.matching_certified.proofs.Reason.{given-up}
use Rattle.matching_engine.specs.declared.GaveUp.{GaveUp}
use Rattle.std.specs.Prelude.{Ok, Err}
use Rattle.matching_engine.specs.Tried.{Tried, Sought, Found, Absent, paired_bond, Lasts}

differ : ◌≡◌ {A = ℕ} 0 1 → ⊥
differ e = omega arith

-- the row in front of k
take_less : (k : ℕ) (l : List ℕ) → take k (take (suc k) l) ≡ take k l
take_less zero l = refl
take_less (suc k) [] = refl
take_less (suc k) (x ∷ l) = ap (λ (t : List ℕ). x ∷ t) (take_less k l)

take-set : (l : List ℕ) (k x : ℕ) → take k (set l k x) ≡ take k l
take-set l zero x = refl
take-set [] (suc k) x = refl
take-set (y ∷ l) (suc k) x = ap (λ (t : List ℕ). y ∷ t) (take-set l k x)

front-set : (X row' : List ℕ) (k x : ℕ) → take (k + 1) row' ≡ take (k + 1) (set X k x) → take k row' ≡ take k X
front-set X row' k x e =
    let f : take (suc k) row' ≡ take (suc k) (set X k x) = rw (add-one k) at e in
    sym (take_less k row') ∙ ap (take k) f ∙ take_less k (set X k x) ∙ take-set X k x

pub inside : {k m : ℕ} → k < m → k ≡ m → ⊥
inside h e = omega arith

-- the ways of `choose`
pub not_chosen : {ea eb el need row : List ℕ} {k : ℕ} {f : Bool} → Shape ea eb el need row k → f ≡ free_at ea eb el need k → f ≡ false
    → Tried need row k (length ea) (paired_bond ea eb el need k) Absent need row
not_chosen s e n = record {
  same = refl;
  front = refl;
  back = refl;
  found = λ q. absurd (differ (cc));
  absent = λ q. rw (sym e ∙ n);
}

pub spent : {need row : List ℕ} {k m : ℕ} {fs : List Row} {g : GaveUp} → Tried need row k m fs (Err g) need row
spent = record { same = refl; front = refl; back = refl; found = λ q. absurd (differ (cc)); absent = λ q. absurd (differ (cc)) }

pub chosen : {ea eb el need row : List ℕ} {k : ℕ} {f : Bool} → Shape ea eb el need row k → k < length ea → f ≡ free_at ea eb el need k → f ≡ true
    → {mid need1 row1 need2 : List ℕ} {o : Sought} → mid ≡ mark_at ea eb need k 0 → Tried mid (set row k 1) (k + 1) (length ea) (all_from ea eb el mid (k + 1)) o need1 row1
    → need2 ≡ mark_at ea eb need1 k 1 → Tried need row k (length ea) (paired_bond ea eb el need k) o need2 row1
chosen {ea} {eb} {el} {need} {row} {k} {f} s h e y {mid} {need1} {row1} {need2} {o} marked t unmarked =
    let free : free_at ea eb el need k ≡ true = sym e ∙ y in
    let same' : need2 ≡ need = unmarked ∙ ap (λ (l : List ℕ). mark_at ea eb l k 1) (t.same ∙ marked) ∙ restore ea eb el need k free in
    let all : all_from ea eb el mid (k + 1) ≡ all_from ea eb el (mark_at ea eb need k 0) (k + 1) = ap (λ (l : List ℕ). all_from ea eb el l (k + 1)) marked in
    let with : map (λ r. 1 ∷ r) (all_from ea eb el mid (k + 1)) ≡ paired_bond ea eb el need k = ap (map (λ r. 1 ∷ r)) all ∙ rw free in
    record {
      same = same';
      front = front-set row row1 k 1 t.front;
      back = t.back ∙ drop-set-lt (length ea) row k 1 h;
      found = λ q. subst (λ (fs : List Row). Searched need row k (length ea) fs true need2 row1) (append-nil (map (λ r. 1 ∷ r) (all_from ea eb el mid (k + 1))) ∙ with)
          (with-one need row k (length ea) (all_from ea eb el mid (k + 1)) [] true mid need1 row1 need2 (omega (arith, s.room)) h (t.found q) refl same');
      absent = λ q. sym with ∙ ap (map (λ r. 1 ∷ r)) (t.absent q);
    }

-- more rows behind those that were searched
some-append : (A B : List Row) → true ≡ some? A → true ≡ some? (A ++ B)
some-append [] B e = cc
some-append (a ∷ A) B e = refl

head-append : (z : Row) (A B : List Row) → true ≡ some? A → head_or z (A ++ B) ≡ head_or z A
head-append z [] B e = cc
head-append z (a ∷ A) B e = refl

widen : {need row : List ℕ} {k m : ℕ} {A : List Row} {o : Sought} {need' row' : List ℕ} (B : List Row) → Tried need row k m A o need' row' → (o ≡ Absent → ⊥) → Tried need row k m (A ++ B) o need' row'
widen {need} {row} {k} {m} {A} B t n = record {
  same = t.same;
  front = t.front;
  back = t.back;
  found = λ q. record {
    same = t.same;
    told = some-append A B (t.found q).told;
    wrote = (t.found q).wrote ∙ ap (λ (r : Row). take k row ++ (r ++ drop m row)) (sym (head-append (replicate (m - k) 0) A B (t.found q).told));
  };
  absent = λ q. absurd (n q);
}

-- the bond k is left: X is the row that the search for the bond left
zero-step : {need row : List ℕ} (X : List ℕ) {k m : ℕ} {fs : List Row} {o : Sought} {need' row' : List ℕ} → take k X ≡ take k row → drop m X ≡ drop m row → k < length X → k < m
    → Tried need (set X k 0) (k + 1) m fs o need' row' → Tried need row k m (map (λ r. 0 ∷ r) fs) o need' row'
zero-step {need} {row} X {k} {m} {fs} {o} {need'} {row'} f b l h t = record {
  same = t.same;
  front = front-set X row' k 0 t.front ∙ f;
  back = t.back ∙ drop-set-lt m X k 0 h ∙ b;
  found = λ q. with-zero need row X k m fs true need' row' f b l h (t.found q);
  absent = λ q. ap (map (λ r. 0 ∷ r)) (t.absent q);
}

-- the search from k on stands at the bond i: what it finds from there on, it finds from k on
pub record Along (ea eb el need row₀ : List ℕ) (k i : ℕ) (need' row : List ℕ) : Type 0 where
  pub begun : k ≤ i
  pub upto : i ≤ length ea
  pub flags : need' ≡ need
  pub long : length row ≡ length row₀
  pub rest : (o : Sought) (need1 row1 : List ℕ) → Tried need row i (length ea) (all_from ea eb el need i) o need1 row1 → Tried need row₀ k (length ea) (all_from ea eb el need k) o need1 row1

pub along-start : {ea eb el need row : List ℕ} {k : ℕ} → Shape ea eb el need row k → Along ea eb el need row k k need row
along-start s = record { begun = omega arith; upto = s.upto; flags = refl; long = refl; rest = λ o n r t. t }

module _ {ea eb el need row₀ : List ℕ} {k i : ℕ} {need' row : List ℕ} (s : Shape ea eb el need row₀ k) (a : Along ea eb el need row₀ k i need' row) where
  -- what the calls ask
  pub shape-along : Shape ea eb el need' row i
  shape-along = subst (λ (l : List ℕ). Shape ea eb el l row i) (sym a.flags)
      (record { second = s.second; third = s.third; room = omega (arith, s.room, a.long); upto = a.upto; ends1 = s.ends1; ends2 = s.ends2 })

  pub lasts-along : {last : List ℕ} → Lasts ea eb el need last → Lasts ea eb el need' last
  lasts-along {last} l = subst (λ (n : List ℕ). Lasts ea eb el n last) (sym a.flags) l

  module _ (h : i < length ea) {o : Sought} {need1 row1 : List ℕ} (t : Tried need' row i (length ea) (paired_bond ea eb el need' i) o need1 row1) where
    tried : Tried need row i (length ea) (paired_bond ea eb el need i) o need1 row1
    tried = subst (λ (n : List ℕ). Tried n row i (length ea) (paired_bond ea eb el n i) o need1 row1) a.flags t

    parts : all_from ea eb el need i ≡ paired_bond ea eb el need i ++ map (λ r. 0 ∷ r) (all_from ea eb el need (i + 1))
    parts = all-step ea eb el need i (free_at ea eb el need i) h (omega (arith, s.second)) (omega (arith, s.third)) refl

    pub flags-after : need1 ≡ need
    flags-after = tried.same

    -- it was found, or given up
    pub along-told : (o ≡ Absent → ⊥) → Tried need row₀ k (length ea) (all_from ea eb el need k) o need1 row1
    along-told n = a.rest o need1 row1
        (subst (λ (fs : List Row). Tried need row i (length ea) fs o need1 row1) (sym parts) (widen (map (λ r. 0 ∷ r) (all_from ea eb el need (i + 1))) tried n))

    pub along-as : {o' : Sought} → o ≡ o' → (o' ≡ Absent → ⊥) → Tried need row₀ k (length ea) (all_from ea eb el need k) o' need1 row1
    along-as {o'} e n = subst (λ (x : Sought). Tried need row₀ k (length ea) (all_from ea eb el need k) x need1 row1) e (along-told (λ q. n (sym e ∙ q)))

    -- there is none with the bond i: it is left
    pub along-step : o ≡ Absent → length row1 ≡ length row → Along ea eb el need row₀ k (i + 1) need1 (set row1 i 0)
    along-step q l = record {
      begun = omega (arith, a.begun);
      upto = omega arith;
      flags = tried.same;
      long = simp length-set (l ∙ a.long);
      rest = λ o' n r u. a.rest o' n r (subst (λ (fs : List Row). Tried need row i (length ea) fs o' n r) (sym (parts ∙ ap (λ (A : List Row). A ++ map (λ s. 0 ∷ s) (all_from ea eb el need (i + 1))) (tried.absent q)))
          (zero-step row1 tried.front tried.back (omega (arith, a.long, s.room)) h u));
    }

  -- nothing is left from here on
  pub along-none : all_from ea eb el need' i ≡ [] → Tried need row₀ k (length ea) (all_from ea eb el need k) Absent need' row
  along-none e = a.rest Absent need' row
      (record { same = a.flags; front = refl; back = refl; found = λ q. absurd (differ (cc)); absent = λ q. ap (λ (n : List ℕ). all_from ea eb el n i) (sym a.flags) ∙ e })

  -- the end of the bonds
  searched-end : length ea ≤ i → {r : Bool} → r ≡ none_flagged need' → Searched need' row i (length ea) (all_from ea eb el need' i) r need' row
  searched-end h e = at-end shape-along (omega (arith, a.upto)) e

  pub along-found : length ea ≤ i → {r : Bool} → r ≡ none_flagged need' → r ≡ true → Tried need row₀ k (length ea) (all_from ea eb el need k) Found need' row
  along-found h {r} e y = a.rest Found need' row
      (subst (λ (n : List ℕ). Tried n row i (length ea) (all_from ea eb el n i) Found need' row) a.flags
      (record { same = refl; front = refl; back = refl; found = λ q. subst (λ (b : Bool). Searched need' row i (length ea) (all_from ea eb el need' i) b need' row) y (searched-end h e); absent = λ q. absurd (differ (cc)) }))

  pub along-end : length ea ≤ i → {r : Bool} → r ≡ none_flagged need' → r ≡ false → Tried need row₀ k (length ea) (all_from ea eb el need k) Absent need' row
  along-end h e n = along-none (empty (all_from ea eb el need' i) (sym (searched-end h e).told ∙ n))
    where
      empty : (fs : List Row) → some? fs ≡ false → fs ≡ []
      empty [] e = refl
      empty (f ∷ fs) e = cc

  -- the same, whichever it is
  pub along-all : length ea ≤ i → (r : Bool) → r ≡ none_flagged need' → Tried need row₀ k (length ea) (all_from ea eb el need k) (Ok r) need' row
  along-all h true e = along-found h e refl
  along-all h false e = along-end h e refl

-- what follows on the answer of the search under a budget
module _ {ea eb el need row : List ℕ} {k : ℕ} (s : Shape ea eb el need row k) {o : Sought} {need1 row1 : List ℕ} (t : Tried need row k (length ea) (all_from ea eb el need k) o need1 row1) where
  pub then-blank : o ≡ Absent → {row2 : List ℕ} → row2 ≡ take k row1 ++ (replicate (length ea - k) 0 ++ drop (length ea) row1) → Searched need row k (length ea) (all_from ea eb el need k) false need1 row2
  then-blank q {row2} e = subst (λ (n : List ℕ). Searched need row k (length ea) (all_from ea eb el need k) false n row2) (sym t.same)
      (given-up s (t.absent q) (e ∙ rw (t.front, t.back)))

  pub then-certified : {r : Bool} {need2 row2 : List ℕ} → Searched need1 row1 k (length ea) (all_from ea eb el need1 k) r need2 row2 → Searched need row k (length ea) (all_from ea eb el need k) r need2 row2
  then-certified {r} {need2} {row2} u =
      let v : Searched need row1 k (length ea) (all_from ea eb el need k) r need2 row2 =
      subst (λ (n : List ℕ). Searched n row1 k (length ea) (all_from ea eb el n k) r need2 row2) t.same u in
      record { same = v.same; told = v.told; wrote = v.wrote ∙ rw (t.front, t.back) }

  pub shape-again : length row1 ≡ length row → Shape ea eb el need1 row1 k
  shape-again l = subst (λ (n : List ℕ). Shape ea eb el n row1 k) (sym t.same)
      (record { second = s.second; third = s.third; room = omega (arith, s.room); upto = s.upto; ends1 = s.ends1; ends2 = s.ends2 })
