-- The marks of the atoms that were visited. Assumes nothing.
use Prim.Native.Nat.{ℕ, zero, suc, ◌+◌, ◌<◌, ◌≤◌}
use native.Mathlib.Omega.{arith}
use native.Mathlib.Numerals.{add-one}
use mathlib.Core.Path.{◌≡◌, refl, sym, ap, ◌∙◌, subst}
use mathlib.Core.Bool.{Bool, true, false, ◌||◌, cond}
use mathlib.Core.List.{List, [], ◌∷◌, ◌++◌}
use lib.ListN.{length, get_or, set, length-append}
use lib.Seq.{get_or-set_same, get_or-set_other}
use lib.Dec.{eqb, ltb}
use borrow.Author.Tests.{eq-eqb, ne_eqb, eqb-true, eqb-false, le-ltb}
use Rattle.loops.specs.Loop.{pick}
use Rattle.writing_walk.specs.Walk.{member, place}
use Rattle.writing_walk.proofs.Count.{bit, count, none, more, all_append, eqb_same, never}
use Rattle.writing_walk.proofs.Walk.{times, Once, absent, once-add, member-append}
use Rattle.writing_walk.proofs.Trip.{below_suc, all-count, place_at}
use Rattle.writing_visit.specs.Visit.{walk_mark, unseen, Visited}

-- the mark tells whether an atom was visited
pub unmarked : (s : List ℕ) (v : ℕ) → walk_mark s v ≡ 0 → member v s ≡ false
unfolding walk_mark
unmarked s v = go (member v s)
  where
    go : (t : Bool) → pick t (suc (place s v)) 0 ≡ 0 → t ≡ false
    go true e = absurd (omega arith)
    go false e = refl

pub marked : (s : List ℕ) (v : ℕ) → (walk_mark s v ≡ 0 → ⊥) → member v s ≡ true
unfolding walk_mark
marked s v = go (member v s)
  where
    go : (t : Bool) → (pick t (suc (place s v)) 0 ≡ 0 → ⊥) → t ≡ true
    go true e = refl
    go false e = absurd (e refl)

-- at most n atoms below n, and fewer if one is not there
few : (n : ℕ) (l : List ℕ) → Once l → count (λ v. ltb v n) l ≤ n
few zero l o = none_below l
  where
    none_below : (l : List ℕ) → count (λ v. ltb v 0) l ≤ 0
    none_below [] = omega arith
    none_below (x ∷ l) = omega (arith, ap bit (le-ltb x 0 (omega arith)), none_below l)
few (suc n) l o = omega (arith, below_suc n l, few n l o, o n)

fewer : (n w : ℕ) (l : List ℕ) → Once l → w < n → times w l ≡ 0 → count (λ v. ltb v n) l < n
fewer zero w l o h e = absurd (omega arith)
fewer (suc n) w l o h e = go (eqb w n) refl (fewer n w l o)
  where
    go : (t : Bool) → eqb w n ≡ t → (w < n → times w l ≡ 0 → count (λ v. ltb v n) l < n) → count (λ v. ltb v (suc n)) l < suc n
    go true g r =
        let i : times n l ≡ 0 = ap (λ (v : ℕ). times v l) (sym (eqb-true w n g)) ∙ e in
        omega (arith, below_suc n l, few n l o)
    go false g r = let i = eqb-false w n g in omega (arith, below_suc n l, r (omega arith) e, o n)

pub room-left : (n w count : ℕ) (s number : List ℕ) → Visited n s count number → w < n → member w s ≡ false → count < n
room-left n w count s number st h e = omega (arith, st.long, all-count n s st.inside, fewer n w s st.once h (absent w s e))

-- one atom more
place-append : (v : ℕ) (s t : List ℕ) → member v s ≡ true → place (s ++ t) v ≡ place s v
place-append v [] t e = absurd (never false e refl)
place-append v (x ∷ s) t e = go (eqb v x) e (place-append v s t)
  where
    go : (b : Bool) → (b || member v s) ≡ true → (member v s ≡ true → place (s ++ t) v ≡ place s v) → cond b 0 (suc (place (s ++ t) v)) ≡ cond b 0 (suc (place s v))
    go true e f = refl
    go false e f = ap suc (f e)

mark-other : (s : List ℕ) (v w : ℕ) → (v ≡ w → ⊥) → walk_mark s v ≡ walk_mark (s ++ (w ∷ [])) v
unfolding walk_mark
mark-other s v w h = go (member v s) refl
  where
    go : (t : Bool) → member v s ≡ t → pick t (suc (place s v)) 0 ≡ pick (member v (s ++ (w ∷ []))) (suc (place (s ++ (w ∷ [])) v)) 0
    go true e = sym (rw (member-append v s (w ∷ []), e, place-append v s (w ∷ []) e))
    go false e = sym (rw (member-append v s (w ∷ []), e, ne_eqb v w h))

mark-here : (s : List ℕ) (w : ℕ) → member w s ≡ false → suc (length s) ≡ walk_mark (s ++ (w ∷ [])) w
unfolding walk_mark
mark-here s w e = sym (rw (member-append w s (w ∷ []), e, eqb_same w, place_at w s [] (absent w s e)))

pub stands-add : (n w count : ℕ) (s number : List ℕ) → Visited n s count number → w < n → n ≤ length number → member w s ≡ false → Visited n (s ++ (w ∷ [])) (count + 1) (set number w (count + 1))
stands-add n w count s number st h g e =
    let z : w < length number = omega arith in
    record {
      once = once-add s w st.once e;
      inside = all_append (λ v. v < n) s (w ∷ []) st.inside (more {b = w} h none);
      long = length-append s (w ∷ []) ∙ omega (arith, st.long);
      marks = λ v i. go v i (eqb v w) refl;
    }
  where
    go : (v : ℕ) → v < n → (t : Bool) → eqb v w ≡ t → get_or (set number w (count + 1)) v 0 ≡ walk_mark (s ++ (w ∷ [])) v
    go v i true q =
        let y : v ≡ w = eqb-true v w q in
        let x : w < length number = omega arith in
        rw (y, get_or-set_same number w (count + 1) 0 x, add-one count, ← st.long) (mark-here s w e)
    go v i false q =
        let y = eqb-false v w q in
        get_or-set_other number w v (count + 1) 0 y ∙ st.marks v i ∙ mark-other s v w y

pub stands-cast : (n count : ℕ) (s t number : List ℕ) → s ≡ t → Visited n s count number → Visited n t count number
stands-cast n count s t number e st = subst (λ (l : List ℕ). Visited n l count number) e st

first-set : (a b : Bool) (u : ℕ) → a ≡ false → b ≡ true → pick a (suc u) u + 1 ≡ pick b (suc u) u
first-set true b u e h = absurd (never true refl e)
first-set false true u e h = omega arith
first-set false false u e h = absurd (never false h refl)

-- a new mark leaves one atom fewer
pub unseen-set : (t : List ℕ) (w x : ℕ) → w < length t → get_or t w 0 ≡ 0 → unseen (set t w (suc x)) + 1 ≡ unseen t
unfolding unseen
unseen-set [] w x h e = absurd (omega arith)
unseen-set (y ∷ t) zero x h e = first-set (eqb (suc x) 0) (eqb y 0) (unseen t) (ne_eqb (suc x) 0 (omega arith)) (eq-eqb y 0 e)
unseen-set (y ∷ t) (suc w) x h e = go (eqb y 0) (unseen-set t w x (omega arith) e)
  where
    go : (b : Bool) → unseen (set t w (suc x)) + 1 ≡ unseen t → pick b (suc (unseen (set t w (suc x)))) (unseen (set t w (suc x))) + 1 ≡ pick b (suc (unseen t)) (unseen t)
    go true h = omega arith
    go false h = h
