-- Matchings as a search meets them are the matchings, and the calls on rows give what the enumeration of the molecule gives. Assumes nothing.
use mathlib.Core.Path.{◌≡◌, refl, sym, ap, ◌∙◌, fun_ext}
use mathlib.Core.Bool.{Bool, true, false, ◌&&◌, ◌||◌, not}
use mathlib.Core.List.{List, [], ◌∷◌, ◌++◌, map}
use Prim.Native.Nat.{ℕ, zero, suc, ◌+◌, ◌≤◌}
use native.Mathlib.Nat.{zero-add, add-zero, add-suc, suc-add}
use native.Mathlib.Omega.{arith}
use lib.Dec.{eqb}
use lib.ListN.{length, replicate, get_or, set}
use lib.Seq.{get_or-set_other}
use borrow.Author.Tests.{eq-eqb, eqb-true, eqb-false}
use Rattle.loops.specs.Loop.{pick}
use Rattle.loops.proofs.Loops.{and_left, and_right}
use Rattle.matching.specs.Enumeration.{Row, rows, cons_if, passing, matchings, cursor_at, is_row, before, row_replies}
use Rattle.matching.specs.Graph.{Bond, flagged, induced, chosen_induced, count_if, touches, degree, each_once, is_matching, none_flagged, after_zero, enumeration}
use Rattle.matching.specs.Model.{free, pair, pairs_up}
use Rattle.matching.specs.declared.Call.{Call}
use Rattle.matching.proofs.Enumeration.{matchings-suc, passing-none, found, after, after-zero, cursor-found, replies-agree}

abbrev bit : Bool → ℕ
bit true = 1
bit false = 0

pub and_intro : (a b : Bool) → a ≡ true → b ≡ true → (a && b) ≡ true
and_intro a b h k = rw (h, k)

pub same_bool : (a b : Bool) → (a ≡ true → b ≡ true) → (b ≡ true → a ≡ true) → a ≡ b
same_bool true b f g = sym (f refl)
same_bool false true f g = g refl
same_bool false false f g = refl

pub not-true : (a : Bool) → (a ≡ true → ⊥) → a ≡ false
not-true true h = absurd (h refl)
not-true false h = refl

pub never : (a : Bool) → a ≡ true → a ≡ false → ⊥
never a h k = let z : ◌≡◌ {A = ℕ} 0 1 = cc in omega arith

-- the flags
none-all : (need : List ℕ) → ((v : ℕ) → flagged need v ≡ false) → none_flagged need ≡ true
unfolding none_flagged
none-all [] h = refl
none-all (k ∷ ks) h = rw (h 0) (none-all ks (λ v. h (suc v)))

pub all_none : (need : List ℕ) → none_flagged need ≡ true → (v : ℕ) → flagged need v ≡ false
unfolding none_flagged
all_none [] h v = refl
all_none (k ∷ ks) h zero = go (eqb k 1) (and_left (not (eqb k 1)) (none_flagged ks) h)
  where
    go : (b : Bool) → not b ≡ true → b ≡ false
    go true e = sym e
    go false e = refl
all_none (k ∷ ks) h (suc v) = all_none ks (and_right (not (eqb k 1)) (none_flagged ks) h) v

cleared : (l : List ℕ) (i : ℕ) → get_or (set l i 0) i 0 ≡ 0
cleared [] i = refl
cleared (x ∷ l) zero = refl
cleared (x ∷ l) (suc i) = cleared l i

stays-clear : (l : List ℕ) (i j : ℕ) → get_or l i 0 ≡ 0 → get_or (set l j 0) i 0 ≡ 0
stays-clear [] i j h = refl
stays-clear (x ∷ l) zero zero h = refl
stays-clear (x ∷ l) zero (suc j) h = h
stays-clear (x ∷ l) (suc i) zero h = h
stays-clear (x ∷ l) (suc i) (suc j) h = stays-clear l i j h

pub or_cases : {P : Type 0} (a b : Bool) → (a || b) ≡ true → (a ≡ true → P) → (b ≡ true → P) → P
or_cases true b h f g = f refl
or_cases false b h f g = g h

or-false : (a b : Bool) → (a || b) ≡ false → (a ≡ false) × (b ≡ false)
or-false true b h = (cc, cc)
or-false false b h = (refl, h)

-- an end of a chosen bond wants nobody any more
pair-touched : (b : Bond) (need : List ℕ) (v : ℕ) → touches b v ≡ true → flagged (pair b need) v ≡ false
pair-touched b need v h =
    let z : get_or (pair b need) v 0 ≡ 0 = or_cases (eqb b.end1 v) (eqb b.end2 v) h
    (λ e. stays-clear (set need b.end1 0) v b.end2 (ap (λ (i : ℕ). get_or (set need b.end1 0) i 0) (sym (eqb-true b.end1 v e)) ∙ cleared need b.end1))
    (λ e. ap (λ (i : ℕ). get_or (pair b need) i 0) (sym (eqb-true b.end2 v e)) ∙ cleared (set need b.end1 0) b.end2) in
    rw z

pub pair-other : (b : Bond) (need : List ℕ) (v : ℕ) → touches b v ≡ false → flagged (pair b need) v ≡ flagged need v
pair-other b need v h =
    let q = or-false (eqb b.end1 v) (eqb b.end2 v) h in
    ap (λ (n : ℕ). eqb n 1)
    (get_or-set_other (set need b.end1 0) b.end2 v 0 0 (λ e. eqb-false b.end2 v q.1 (sym e))
    ∙ get_or-set_other need b.end1 v 0 0 (λ e. eqb-false b.end1 v q.0 (sym e)))

free-touched : (b : Bond) (need : List ℕ) (v : ℕ) → free b need ≡ true → touches b v ≡ true → flagged need v ≡ true
free-touched b need v f h = or_cases (eqb b.end1 v) (eqb b.end2 v) h
    (λ e. ap (flagged need) (sym (eqb-true b.end1 v e)) ∙ and_right b.elided (flagged need b.end1) (and_left (b.elided && flagged need b.end1) (flagged need b.end2) f))
    (λ e. ap (flagged need) (sym (eqb-true b.end2 v e)) ∙ and_right (b.elided && flagged need b.end1) (flagged need b.end2) f)

touch1 : (b : Bond) → touches b b.end1 ≡ true
touch1 b = rw (eq-eqb b.end1 b.end1 refl)

touch2 : (b : Bond) → touches b b.end2 ≡ true
touch2 b = rw (eq-eqb b.end2 b.end2 refl) (or-true (eqb b.end1 b.end2))
  where
    or-true : (a : Bool) → (a || true) ≡ true
    or-true true = refl
    or-true false = refl

-- a chosen bond counts once at each end
count-paired : (b : Bond) (need : List ℕ) (v : ℕ) → free b need ≡ true → count_if (touches b v) (bit (flagged (pair b need) v)) ≡ bit (flagged need v)
count-paired b need v f = go (touches b v) refl
  where
    go : (t : Bool) → touches b v ≡ t → count_if t (bit (flagged (pair b need) v)) ≡ bit (flagged need v)
    go true h = rw (pair-touched b need v h, free-touched b need v f h)
    go false h = ap bit (pair-other b need v h)

suc-bit : (k : Bool) (d : ℕ) → suc d ≡ bit k → (k ≡ true) × (d ≡ 0)
suc-bit true d h = (refl, omega arith)
suc-bit false d h = absurd (omega arith)

uncount-paired : (b : Bond) (need : List ℕ) (v d : ℕ) → count_if (touches b v) d ≡ bit (flagged need v) → d ≡ bit (flagged (pair b need) v)
uncount-paired b need v d = go (touches b v) refl
  where
    go : (t : Bool) → touches b v ≡ t → count_if t d ≡ bit (flagged need v) → d ≡ bit (flagged (pair b need) v)
    go true h e = rw (pair-touched b need v h) (suc-bit (flagged need v) d e).1
    go false h e = e ∙ ap bit (sym (pair-other b need v h))

-- the search's matching-pairs
abbrev pub Within : List ℕ → List ℕ → Type 0
Within need flags = (v : ℕ) → flagged need v ≡ true → flagged flags v ≡ true

pub within_pair : (b : Bond) (need flags : List ℕ) → Within need flags → Within (pair b need) flags
within_pair b need flags w v h = go (touches b v) refl
  where
    go : (t : Bool) → touches b v ≡ t → flagged flags v ≡ true
    go true e = absurd (never (flagged (pair b need) v) h (pair-touched b need v e))
    go false e = w v (sym (pair-other b need v e) ∙ h)

free-induced : (b : Bond) (need flags : List ℕ) → Within need flags → free b need ≡ true → induced flags b ≡ true
free-induced b need flags w f =
    let g = and_left (b.elided && flagged need b.end1) (flagged need b.end2) f in
    and_intro (b.elided && flagged flags b.end1) (flagged flags b.end2)
    (and_intro b.elided (flagged flags b.end1) (and_left b.elided (flagged need b.end1) g) (w b.end1 (and_right b.elided (flagged need b.end1) g)))
    (w b.end2 (and_right (b.elided && flagged need b.end1) (flagged need b.end2) f))

Right : List ℕ → List Bond → List ℕ → Row → Type 0
Right flags bs need r = (chosen_induced flags bs r ≡ true) × ((v : ℕ) → degree bs r v ≡ bit (flagged need v))

pairs-right : (flags : List ℕ) (bs : List Bond) (need : List ℕ) (r : Row) → Within need flags → pairs_up bs need r ≡ true → Right flags bs need r
unfolding pairs_up chosen_induced degree Right
pairs-right flags [] need r w h = (refl, λ v. ap bit (sym (all_none need h v)))
pairs-right flags (b ∷ bs) need [] w h = (refl, λ v. ap bit (sym (all_none need h v)))
pairs-right flags (b ∷ bs) need (x ∷ r) w h = go (eqb x 0) h (pairs-right flags bs need r w) (pairs-right flags bs (pair b need) r (within_pair b need flags w))
  where
    go : (z : Bool) → pick z (pairs_up bs need r) (free b need && pairs_up bs (pair b need) r) ≡ true → (pairs_up bs need r ≡ true → Right flags bs need r) → (pairs_up bs (pair b need) r ≡ true → Right flags bs (pair b need) r)
        → (((z || induced flags b) && chosen_induced flags bs r) ≡ true) × ((v : ℕ) → count_if (not z && touches b v) (degree bs r v) ≡ bit (flagged need v))
    go true e f g = f e
    go false e f g =
        let fr = and_left (free b need) (pairs_up bs (pair b need) r) e in
        let k = g (and_right (free b need) (pairs_up bs (pair b need) r) e) in
        (and_intro (induced flags b) (chosen_induced flags bs r) (free-induced b need flags w fr) k.0, λ v. ap (count_if (touches b v)) (k.1 v) ∙ count-paired b need v fr)

right-pairs : (flags : List ℕ) (bs : List Bond) (need : List ℕ) (r : Row) → Right flags bs need r → pairs_up bs need r ≡ true
unfolding pairs_up chosen_induced degree Right
right-pairs flags [] need r h = none-all need (λ v. not-true (flagged need v) (λ e. let z : ◌≡◌ {A = ℕ} 0 1 = h.1 v ∙ ap bit e in omega arith))
right-pairs flags (b ∷ bs) need [] h = none-all need (λ v. not-true (flagged need v) (λ e. let z : ◌≡◌ {A = ℕ} 0 1 = h.1 v ∙ ap bit e in omega arith))
right-pairs flags (b ∷ bs) need (x ∷ r) h = go (eqb x 0) h.0 h.1 (right-pairs flags bs need r) (right-pairs flags bs (pair b need) r)
  where
    go : (z : Bool) → ((z || induced flags b) && chosen_induced flags bs r) ≡ true → ((v : ℕ) → count_if (not z && touches b v) (degree bs r v) ≡ bit (flagged need v))
        → (Right flags bs need r → pairs_up bs need r ≡ true) → (Right flags bs (pair b need) r → pairs_up bs (pair b need) r ≡ true)
        → pick z (pairs_up bs need r) (free b need && pairs_up bs (pair b need) r) ≡ true
    go true i d f g = f (i, d)
    go false i d f g =
        let ind = and_left (induced flags b) (chosen_induced flags bs r) i in
        let el : b.elided ≡ true = and_left b.elided (flagged flags b.end1) (and_left (b.elided && flagged flags b.end1) (flagged flags b.end2) ind) in
        let k1 : flagged need b.end1 ≡ true = (suc-bit (flagged need b.end1) (degree bs r b.end1) (ap (λ (t : Bool). count_if t (degree bs r b.end1)) (sym (touch1 b)) ∙ d b.end1)).0 in
        let k2 : flagged need b.end2 ≡ true = (suc-bit (flagged need b.end2) (degree bs r b.end2) (ap (λ (t : Bool). count_if t (degree bs r b.end2)) (sym (touch2 b)) ∙ d b.end2)).0 in
        and_intro (free b need) (pairs_up bs (pair b need) r)
        (and_intro (b.elided && flagged need b.end1) (flagged need b.end2) (and_intro b.elided (flagged need b.end1) el k1) k2)
        (g (and_right (induced flags b) (chosen_induced flags bs r) i, λ v. uncount-paired b need v (degree bs r v) (d v)))

-- each flags atom once
pub once-at : (bs : List Bond) (r : Row) (ks : List ℕ) (u : ℕ) → each_once bs r ks u ≡ true → (i : ℕ) → flagged ks i ≡ true → degree bs r (u + i) ≡ 1
unfolding each_once
once-at bs r [] u h i e = absurd (never (flagged [] i) e refl)
once-at bs r (k ∷ ks) u h zero e = rw (add-zero u) (go (eqb k 1) e (and_left (not (eqb k 1) || eqb (degree bs r u) 1) (each_once bs r ks (suc u)) h))
  where
    go : (b : Bool) → b ≡ true → (not b || eqb (degree bs r u) 1) ≡ true → degree bs r u ≡ 1
    go true e h = eqb-true (degree bs r u) 1 h
    go false e h = absurd (never false e refl)
once-at bs r (k ∷ ks) u h (suc i) e =
    ap (degree bs r) (add-suc u i ∙ sym (suc-add u i)) ∙ once-at bs r ks (suc u) (and_right (not (eqb k 1) || eqb (degree bs r u) 1) (each_once bs r ks (suc u)) h) i e

pub at_once : (bs : List Bond) (r : Row) (ks : List ℕ) (u : ℕ) → ((i : ℕ) → flagged ks i ≡ true → degree bs r (u + i) ≡ 1) → each_once bs r ks u ≡ true
unfolding each_once
at_once bs r [] u h = refl
at_once bs r (k ∷ ks) u h =
    and_intro (not (eqb k 1) || eqb (degree bs r u) 1) (each_once bs r ks (suc u)) (go (eqb k 1) refl)
    (at_once bs r ks (suc u) (λ i e. ap (degree bs r) (suc-add u i ∙ sym (add-suc u i)) ∙ h (suc i) e))
  where
    go : (b : Bool) → eqb k 1 ≡ b → (not b || eqb (degree bs r u) 1) ≡ true
    go true e = eq-eqb (degree bs r u) 1 (ap (degree bs r) (sym (add-zero u)) ∙ h 0 e)
    go false e = refl

-- an atom that is not flags is no end of an induced bond
induced-apart : (flags : List ℕ) (b : Bond) (v : ℕ) → flagged flags v ≡ false → induced flags b ≡ true → touches b v ≡ false
induced-apart flags b v n f = not-true (touches b v) (λ e. never (flagged flags v) (free-touched b flags v f e) n)

unflagged : (flags : List ℕ) (bs : List Bond) (r : Row) (v : ℕ) → flagged flags v ≡ false → chosen_induced flags bs r ≡ true → degree bs r v ≡ 0
unfolding chosen_induced degree
unflagged flags [] r v n h = refl
unflagged flags (b ∷ bs) [] v n h = refl
unflagged flags (b ∷ bs) (x ∷ r) v n h = go (eqb x 0) h (unflagged flags bs r v n)
  where
    go : (z : Bool) → ((z || induced flags b) && chosen_induced flags bs r) ≡ true → (chosen_induced flags bs r ≡ true → degree bs r v ≡ 0) → count_if (not z && touches b v) (degree bs r v) ≡ 0
    go true e f = f e
    go false e f = rw (induced-apart flags b v n (and_left (induced flags b) (chosen_induced flags bs r) e)) (f (and_right (induced flags b) (chosen_induced flags bs r) e))

matching-right : (flags : List ℕ) (bs : List Bond) (r : Row) → is_matching flags bs r ≡ true → Right flags bs flags r
unfolding is_matching Right
matching-right flags bs r h =
    let i = and_left (chosen_induced flags bs r) (each_once bs r flags 0) h in
    let o = and_right (chosen_induced flags bs r) (each_once bs r flags 0) h in
    (i, λ v. go v i o (flagged flags v) refl)
  where
    go : (v : ℕ) → chosen_induced flags bs r ≡ true → each_once bs r flags 0 ≡ true → (b : Bool) → flagged flags v ≡ b → degree bs r v ≡ bit b
    go v i o true e = ap (degree bs r) (sym (zero-add v)) ∙ once-at bs r flags 0 o v e
    go v i o false e = unflagged flags bs r v e i

right-matching : (flags : List ℕ) (bs : List Bond) (r : Row) → Right flags bs flags r → is_matching flags bs r ≡ true
unfolding is_matching Right
right-matching flags bs r h = and_intro (chosen_induced flags bs r) (each_once bs r flags 0) h.0 (at_once bs r flags 0 (λ i e. ap (degree bs r) (zero-add i) ∙ h.1 i ∙ ap bit e))

pub within-self : (flags : List ℕ) → Within flags flags
within-self flags v h = h

-- fewer atoms want a partner: no other bond is free
pub free-less : (b c : Bond) (need : List ℕ) → free c (pair b need) ≡ true → free c need ≡ true
free-less b c need h =
    let g = and_left (c.elided && flagged (pair b need) c.end1) (flagged (pair b need) c.end2) h in
    and_intro (c.elided && flagged need c.end1) (flagged need c.end2)
    (and_intro c.elided (flagged need c.end1) (and_left c.elided (flagged (pair b need) c.end1) g) (less c.end1 (and_right c.elided (flagged (pair b need) c.end1) g)))
    (less c.end2 (and_right (c.elided && flagged (pair b need) c.end1) (flagged (pair b need) c.end2) h))
  where
    less : (v : ℕ) → flagged (pair b need) v ≡ true → flagged need v ≡ true
    less v = within_pair b need need (within-self need) v

-- the search's matching-pairs are the matching-pairs
pub matching-pairs_up : (flags : List ℕ) (bs : List Bond) (r : Row) → is_matching flags bs r ≡ pairs_up bs flags r
matching-pairs_up flags bs r = same_bool (is_matching flags bs r) (pairs_up bs flags r)
    (λ h. right-pairs flags bs flags r (matching-right flags bs r h))
    (λ h. right-matching flags bs r (pairs-right flags bs flags r (within-self flags) h))

pub matching-pairs : (flags : List ℕ) (bs : List Bond) → is_matching flags bs ≡ pairs_up bs flags
matching-pairs flags bs = fun_ext (matching-pairs_up flags bs)

-- one bond more
pub matchings-bond : (b : Bond) (bs : List Bond) (need : List ℕ) (m : ℕ) (f : Bool) → free b need ≡ f
    → matchings (pairs_up (b ∷ bs) need) (suc m) ≡ map (λ s. 1 ∷ s) (found f (matchings (pairs_up bs (pair b need)) m)) ++ map (λ s. 0 ∷ s) (matchings (pairs_up bs need) m)
unfolding pairs_up
matchings-bond b bs need m true h = matchings-suc (pairs_up (b ∷ bs) need) m ∙ rw h
matchings-bond b bs need m false h = matchings-suc (pairs_up (b ∷ bs) need) m ∙ rw (h, passing-none)

pub matchings-end : (need : List ℕ) → matchings (pairs_up [] need) 0 ≡ cons_if (none_flagged need) [] []
unfolding rows passing pairs_up
matchings-end need = refl

-- after the row of zeros there is none
after-nil : (p : Row → Bool) → matchings (after p []) 0 ≡ []
unfolding rows passing before
after-nil p = go (p [])
  where
    go : (b : Bool) → cons_if (b && false) [] [] ≡ []
    go true = refl
    go false = refl

after-zeros : (p : Row → Bool) (m : ℕ) → matchings (after p (replicate m 0)) m ≡ []
after-zeros p zero = after-nil p
after-zeros p (suc m) = after-zero p m (replicate m 0) ∙ ap (map (λ s. 0 ∷ s)) (after-zeros (λ s. p (0 ∷ s)) m)

pub zeros-row : (m : ℕ) → is_row m (replicate m 0) ≡ true
unfolding is_row
zeros-row zero = refl
zeros-row (suc m) = zeros-row m

zeros-pair : (bs : List Bond) (need : List ℕ) → pairs_up bs need (replicate (length bs) 0) ≡ none_flagged need
unfolding pairs_up
zeros-pair [] need = refl
zeros-pair (b ∷ bs) need = zeros-pair bs need

unfree : (b : Bond) (need : List ℕ) → none_flagged need ≡ true → free b need ≡ false
unfree b need h = not-true (free b need) (λ e. never (flagged need b.end2) (and_right (b.elided && flagged need b.end1) (flagged need b.end2) e) (all_none need h b.end2))

-- with no flags atom there is one matching, all 0
pub only-zeros : (bs : List Bond) (need : List ℕ) → none_flagged need ≡ true → matchings (pairs_up bs need) (length bs) ≡ replicate (length bs) 0 ∷ []
only-zeros [] need h = matchings-end need ∙ rw h
only-zeros (b ∷ bs) need h = matchings-bond b bs need (length bs) false (unfree b need h) ∙ ap (map (λ s. 0 ∷ s)) (only-zeros bs need h)

-- the cursor at the row of zeros
zero-cursor : (bs : List Bond) (flags : List ℕ) → cursor_at (replicate (length bs) 0) (matchings (pairs_up bs flags) (length bs)) ≡ after_zero flags (matchings (pairs_up bs flags) (length bs))
zero-cursor bs flags =
    cursor-found (pairs_up bs flags) (length bs) (replicate (length bs) 0)
    ∙ rw (zeros-row (length bs), zeros-pair bs flags, after-zeros (pairs_up bs flags) (length bs)) (go (none_flagged flags) refl)
  where
    go : (b : Bool) → none_flagged flags ≡ b → found b (replicate (length bs) 0 ∷ []) ≡ pick b (matchings (pairs_up bs flags) (length bs)) []
    go true h = sym (only-zeros bs flags h)
    go false h = refl

-- THE STATEMENT: to every list of calls the calls on rows give what the enumeration of the molecule gives
pub enumeration-agrees : (flags : List ℕ) (bs : List Bond) (cs : List Call) (row : Row) → length bs ≤ length row → row_replies (is_matching flags bs) (length bs) cs row ≡ enumeration flags bs cs row
unfolding enumeration
enumeration-agrees flags bs cs row fits = rw (matching-pairs flags bs)
    (replies-agree (pairs_up bs flags) (length bs) (length row) (after_zero flags (matchings (pairs_up bs flags) (length bs))) fits (zero-cursor bs flags) cs row refl)
