-- The bonds that the walk does not use are those that join no atom to its parent. Assumes nothing.
use Prim.Native.Nat.{ℕ, zero, suc, ◌+◌, ◌-◌, ◌<◌, ◌≤◌}
use native.Mathlib.Omega.{arith}
use mathlib.Core.Path.{◌≡◌, refl, sym, ap, ◌∙◌, subst}
use mathlib.Core.Bool.{Bool, true, false, ◌&&◌, not, cond}
use mathlib.Core.List.{List, [], ◌∷◌, ◌++◌, append_assoc}
use lib.ListN.{get_or, get_or-append}
use lib.Seq.{get_or-append-add}
use lib.Dec.{eqb, ltb}
use borrow.Author.Tests.{eq-eqb, ne_eqb, eqb-true, eqb-false, ltb-true, ltb-false}
use Rattle.writing_walk.specs.Token.{Bond, bond, eq_bond}
use Rattle.writing_walk.specs.Emit.{Forest, leaf, node, size, pre, tree, trees}
use Rattle.writing_walk.specs.Walk.{forest_of, remove, remove_all, keep_if, keep, renumbered, unused}
use Rattle.writing_walk.specs.Check.{ends}
use Rattle.writing_walk.specs.Flat.{ups}
use Rattle.writing_walk.proofs.Count.{bit, count, count-append, All, none, more, bond-same, bond-eq, eqb_same, never, all_map}
use Rattle.writing_walk.proofs.Walk.{Inside}
use Rattle.writing_walk.proofs.Trip.{within, keep-count, renumbering, size-length, inside-renumbered}
use Rattle.writing_walk.proofs.Twice.{Distinct, distinct-map}
use Rattle.writing_walk.proofs.Again.{all_both}
use Rattle.writing_visit.proofs.Laws.{length-ups}

-- ---- the bonds of a forest by their higher end
-- no bond of the forest has an end below its first number, or past its last one, as its higher end
tree-low : (a c : ℕ) (F : Forest) (h n : ℕ) → c < n → count (ends a c) (tree F h n) ≡ 0
tree-low a c leaf h n l = refl
tree-low a c (node w k f g) h n l =
    let z : bit (ends a c (bond h n k)) ≡ 0 = ap bit (off (eqb h a)) in
    omega (arith, count-append (ends a c) (tree f n (suc n)) (tree g h (suc n + size f)), tree-low a c f n (suc n) (omega arith), tree-low a c g h (suc n + size f) (omega arith))
  where
    off : (t : Bool) → (t && eqb n c) ≡ false
    off true = ne_eqb n c (omega arith)
    off false = refl

tree-high : (a c : ℕ) (F : Forest) (h n : ℕ) → n + size F ≤ c → count (ends a c) (tree F h n) ≡ 0
tree-high a c leaf h n l = refl
tree-high a c (node w k f g) h n l =
    let z : bit (ends a c (bond h n k)) ≡ 0 = ap bit (off (eqb h a)) in
    omega (arith, count-append (ends a c) (tree f n (suc n)) (tree g h (suc n + size f)), tree-high a c f n (suc n) (omega arith), tree-high a c g h (suc n + size f) (omega arith))
  where
    off : (t : Bool) → (t && eqb n c) ≡ false
    off true = ne_eqb n c (omega arith)
    off false = refl

trees-low : (a c : ℕ) (F : Forest) (n : ℕ) → c < n → count (ends a c) (trees F n) ≡ 0
trees-low a c leaf n l = refl
trees-low a c (node w k f g) n l =
    omega (arith, count-append (ends a c) (tree f n (suc n)) (trees g (suc n + size f)), tree-low a c f n (suc n) (omega arith), trees-low a c g (suc n + size f) (omega arith))

eqb-suc : (a b : ℕ) → eqb (suc a) (suc b) ≡ eqb a b
eqb-suc a b = go (eqb a b) refl
  where
    go : (t : Bool) → eqb a b ≡ t → eqb (suc a) (suc b) ≡ t
    go true e = let z = eqb-true a b e in eq-eqb (suc a) (suc b) (omega arith)
    go false e = let z = eqb-false a b e in ne_eqb (suc a) (suc b) (omega arith)

-- two parts of the parents
first_part : (f : Forest) (p n i : ℕ) (l : List ℕ) → i < size f → get_or (ups f p n ++ l) i 0 ≡ get_or (ups f p n) i 0
first_part f p n i l h = get_or-append (ups f p n) l 0 i (let e = length-ups f p n in omega arith)

second_part : (f : Forest) (p n j i : ℕ) (l : List ℕ) → i ≡ size f + j → get_or (ups f p n ++ l) i 0 ≡ get_or l j 0
second_part f p n j i l h = ap (λ (x : ℕ). get_or (ups f p n ++ l) x 0) (h ∙ ap (λ (x : ℕ). x + j) (sym (length-ups f p n))) ∙ get_or-append-add (ups f p n) l j 0

first_only : (b c : Bool) (x y z : ℕ) → b ≡ c → x ≡ y + z → y ≡ 0 → z ≡ 0 → bit b + x ≡ bit c
first_only b c x y z e q r s = omega (arith, ap bit e)

-- a bond below h is in the forest exactly if h is the parent
tree-up : (a : ℕ) (F : Forest) (h n i : ℕ) → i < size F → count (ends a (n + i)) (tree F h n) ≡ bit (eqb (get_or (ups F (suc h) n) i 0) (suc a))
tree-up a leaf h n i l = absurd (omega arith)
tree-up a (node w k f g) h n zero l =
    let e : n + 0 ≡ n = omega arith in
    let z : ends a n (bond h n k) ≡ eqb (suc h) (suc a) = rw (eqb_same n, eqb-suc h a) (and_one (eqb h a)) in
    subst (λ (x : ℕ). count (ends a x) (tree (node w k f g) h n) ≡ bit (eqb (suc h) (suc a))) (sym e)
    (first_only (ends a n (bond h n k)) _ (count (ends a n) (tree f n (suc n) ++ tree g h (suc n + size f))) _ _ z
    (count-append (ends a n) (tree f n (suc n)) (tree g h (suc n + size f))) (tree-low a n f n (suc n) (omega arith)) (tree-low a n g h (suc n + size f) (omega arith)))
  where
    and_one : (t : Bool) → (t && true) ≡ t
    and_one true = refl
    and_one false = refl
tree-up a (node w k f g) h n (suc i) l = go (ltb i (size f)) refl (tree-up a f n (suc n) i) (tree-up a g h (suc n + size f) (i - size f))
  where
    c : ℕ
    c = n + suc i

    off : (t : Bool) → (t && eqb n (n + suc i)) ≡ false
    off true = ne_eqb n (n + suc i) (omega arith)
    off false = refl

    go : (t : Bool) → ltb i (size f) ≡ t
        → (i < size f → count (ends a (suc n + i)) (tree f n (suc n)) ≡ bit (eqb (get_or (ups f (suc n) (suc n)) i 0) (suc a)))
        → (i - size f < size g → count (ends a (suc n + size f + (i - size f))) (tree g h (suc n + size f)) ≡ bit (eqb (get_or (ups g (suc h) (suc n + size f)) (i - size f) 0) (suc a)))
        → count (ends a (n + suc i)) (bond h n k ∷ (tree f n (suc n) ++ tree g h (suc n + size f))) ≡ bit (eqb (get_or (ups f (suc n) (suc n) ++ ups g (suc h) (suc n + size f)) i 0) (suc a))
    go true e r s =
        let q = ltb-true i (size f) e in
        let x : n + suc i ≡ suc n + i = omega arith in
        let z : bit (ends a (n + suc i) (bond h n k)) ≡ 0 = ap bit (off (eqb h a)) in
        let y : count (ends a (n + suc i)) (tree f n (suc n)) ≡ count (ends a (suc n + i)) (tree f n (suc n)) = ap (λ (j : ℕ). count (ends a j) (tree f n (suc n))) x in
        let p = ap (λ (j : ℕ). bit (eqb j (suc a))) (first_part f (suc n) (suc n) i (ups g (suc h) (suc n + size f)) q) in
        omega (arith, count-append (ends a (n + suc i)) (tree f n (suc n)) (tree g h (suc n + size f)), r q, tree-low a (n + suc i) g h (suc n + size f) (omega arith))
    go false e r s =
        let q = ltb-false i (size f) e in
        let x : n + suc i ≡ suc n + size f + (i - size f) = omega arith in
        let z : bit (ends a (n + suc i) (bond h n k)) ≡ 0 = ap bit (off (eqb h a)) in
        let y : count (ends a (n + suc i)) (tree g h (suc n + size f)) ≡ count (ends a (suc n + size f + (i - size f))) (tree g h (suc n + size f)) = ap (λ (j : ℕ). count (ends a j) (tree g h (suc n + size f))) x in
        let p = ap (λ (j : ℕ). bit (eqb j (suc a))) (second_part f (suc n) (suc n) (i - size f) i (ups g (suc h) (suc n + size f)) (omega arith)) in
        omega (arith, count-append (ends a (n + suc i)) (tree f n (suc n)) (tree g h (suc n + size f)), s (omega arith), tree-high a (n + suc i) f n (suc n) (omega arith))

trees-up : (a : ℕ) (F : Forest) (n i : ℕ) → i < size F → count (ends a (n + i)) (trees F n) ≡ bit (eqb (get_or (ups F 0 n) i 0) (suc a))
trees-up a leaf n i l = absurd (omega arith)
trees-up a (node w k f g) n zero l =
    let e : n + 0 ≡ n = omega arith in
    rw (e, ne_eqb 0 (suc a) (omega arith)) (omega (arith, count-append (ends a n) (tree f n (suc n)) (trees g (suc n + size f)), tree-low a n f n (suc n) (omega arith), trees-low a n g (suc n + size f) (omega arith)))
trees-up a (node w k f g) n (suc i) l = go (ltb i (size f)) refl (trees-up a g (suc n + size f) (i - size f))
  where
    go : (t : Bool) → ltb i (size f) ≡ t
        → (i - size f < size g → count (ends a (suc n + size f + (i - size f))) (trees g (suc n + size f)) ≡ bit (eqb (get_or (ups g 0 (suc n + size f)) (i - size f) 0) (suc a)))
        → count (ends a (n + suc i)) (tree f n (suc n) ++ trees g (suc n + size f)) ≡ bit (eqb (get_or (ups f (suc n) (suc n) ++ ups g 0 (suc n + size f)) i 0) (suc a))
    go true e s =
        let q = ltb-true i (size f) e in
        let x : n + suc i ≡ suc n + i = omega arith in
        let y : count (ends a (n + suc i)) (tree f n (suc n)) ≡ count (ends a (suc n + i)) (tree f n (suc n)) = ap (λ (j : ℕ). count (ends a j) (tree f n (suc n))) x in
        let p = ap (λ (j : ℕ). bit (eqb j (suc a))) (first_part f (suc n) (suc n) i (ups g 0 (suc n + size f)) q) in
        omega (arith, count-append (ends a (n + suc i)) (tree f n (suc n)) (trees g (suc n + size f)), tree-up a f n (suc n) i q, trees-low a (n + suc i) g (suc n + size f) (omega arith))
    go false e s =
        let q = ltb-false i (size f) e in
        let x : n + suc i ≡ suc n + size f + (i - size f) = omega arith in
        let y : count (ends a (n + suc i)) (trees g (suc n + size f)) ≡ count (ends a (suc n + size f + (i - size f))) (trees g (suc n + size f)) = ap (λ (j : ℕ). count (ends a j) (trees g (suc n + size f))) x in
        let p = ap (λ (j : ℕ). bit (eqb j (suc a))) (second_part f (suc n) (suc n) (i - size f) i (ups g 0 (suc n + size f)) (omega arith)) in
        omega (arith, count-append (ends a (n + suc i)) (tree f n (suc n)) (trees g (suc n + size f)), s (omega arith), tree-high a (n + suc i) f n (suc n) (omega arith))

-- ---- taking out is keeping the others
abbrev Unequal : List Bond → Bond → Bool
Unequal [] x = true
Unequal (b ∷ t) x = not (eq_bond b x) && Unequal t x

keep_all : (p : Bond → Bool) (l : List Bond) → All (λ x. p x ≡ true) l → keep p l ≡ l
keep_all p [] none = refl
keep_all p (x ∷ l) (more h a) = rw h (ap (λ (m : List Bond). x ∷ m) (keep_all p l a))

pub keep_same : (p q : Bond → Bool) (l : List Bond) → All (λ x. p x ≡ q x) l → keep p l ≡ keep q l
keep_same p q [] none = refl
keep_same p q (x ∷ l) (more h a) = λ i. keep_if (h i) x (keep_same p q l a i)

keep-both : (p q : Bond → Bool) (l : List Bond) → keep p (keep q l) ≡ keep (λ b. q b && p b) l
keep-both p q [] = refl
keep-both p q (b ∷ l) = go (q b) (keep-both p q l)
  where
    go : (t : Bool) → keep p (keep q l) ≡ keep (λ b. q b && p b) l → keep p (keep_if t b (keep q l)) ≡ keep_if (t && p b) b (keep (λ b. q b && p b) l)
    go true h = ap (keep_if (p b) b) h
    go false h = h

other : (b : Bond) (l : List Bond) → count (eq_bond b) l ≡ 0 → All (λ x. not (eq_bond b x) ≡ true) l
other b [] h = none
other b (x ∷ l) h = more (go (eq_bond b x) h) (other b l (omega arith))
  where
    go : (t : Bool) → bit t + count (eq_bond b) l ≡ 0 → not t ≡ true
    go true h = absurd (omega arith)
    go false h = refl

remove-keep : (b : Bond) (l : List Bond) → count (eq_bond b) l ≤ 1 → remove b l ≡ keep (λ x. not (eq_bond b x)) l
remove-keep b [] h = refl
remove-keep b (x ∷ l) h = go (eq_bond b x) h (remove-keep b l)
  where
    go : (t : Bool) → bit t + count (eq_bond b) l ≤ 1 → (count (eq_bond b) l ≤ 1 → remove b l ≡ keep (λ x. not (eq_bond b x)) l) → cond t l (x ∷ remove b l) ≡ keep_if (not t) x (keep (λ x. not (eq_bond b x)) l)
    go true h r = sym (keep_all (λ x. not (eq_bond b x)) l (other b l (omega arith)))
    go false h r = ap (λ (m : List Bond). x ∷ m) (r (omega arith))

count-and : (p q : Bond → Bool) (l : List Bond) → count (λ b. p b && q b) l ≤ count p l
count-and p q [] = omega arith
count-and p q (b ∷ l) = omega (arith, small (p b) (q b), count-and p q l)
  where
    small : (s t : Bool) → bit (s && t) ≤ bit s
    small true true = omega arith
    small true false = omega arith
    small false t = omega arith

remove_all-keep : (t l : List Bond) → ((b : Bond) → count (eq_bond b) l ≤ 1) → remove_all t l ≡ keep (Unequal t) l
remove_all-keep [] l h = sym (keep_all (Unequal []) l (always l))
  where
    always : (l : List Bond) → All (λ x. Unequal [] x ≡ true) l
    always [] = none
    always (x ∷ l) = more refl (always l)
remove_all-keep (b ∷ t) l h =
    ap (remove_all t) (remove-keep b l (h b))
    ∙ remove_all-keep t (keep (λ x. not (eq_bond b x)) l) (λ a. (let q = keep-count (eq_bond a) (λ x. not (eq_bond b x)) l in let r = count-and (eq_bond a) (λ x. not (eq_bond b x)) l in let s = h a in omega arith))
    ∙ keep-both (Unequal t) (λ x. not (eq_bond b x)) l

-- ---- the two tests agree on the molecule's bonds
eq-ends : (b x : Bond) → bit (eq_bond b x) ≤ bit (ends b.lo b.hi x)
eq-ends b x = go (eq_bond b x) refl
  where
    go : (t : Bool) → eq_bond b x ≡ t → bit t ≤ bit (ends b.lo b.hi x)
    go true e = subst (λ (y : Bond). 1 ≤ bit (ends b.lo b.hi y)) (bond-eq b x e) (rw (eqb_same b.lo, eqb_same b.hi) (omega arith))
    go false e = omega arith

count-eq-ends : (b : Bond) (l : List Bond) → count (eq_bond b) l ≤ count (ends b.lo b.hi) l
count-eq-ends b [] = omega arith
count-eq-ends b (x ∷ l) = omega (arith, eq-ends b x, count-eq-ends b l)

unequal-of : (x : Bond) (t : List Bond) → count (ends x.lo x.hi) t ≡ 0 → Unequal t x ≡ true
unequal-of x [] h = refl
unequal-of x (b ∷ t) h = rw (step (eq_bond b x) refl, unequal-of x t (omega arith))
  where
    step : (e : Bool) → eq_bond b x ≡ e → not e ≡ true
    step true e = absurd (let q = bond-eq b x e in let z : bit (ends x.lo x.hi b) ≡ 1 = ap bit (subst (λ (y : Bond). ends x.lo x.hi y ≡ true) (sym q) (rw (eqb_same x.lo, eqb_same x.hi))) in omega arith)
    step false e = refl

-- a bond of the forest with the same ends is the bond itself
equal_of : (x : Bond) (l t : List Bond) → count (eq_bond x) l ≡ 1 → count (ends x.lo x.hi) l ≤ 1 → All (λ b. 0 < count (eq_bond b) l) t → 0 < count (ends x.lo x.hi) t → Unequal t x ≡ false
equal_of x l [] u d a h = absurd (omega arith)
equal_of x l (b ∷ t) u d (more g a) h = go (ends x.lo x.hi b) refl h (equal_of x l t u d a)
  where
    and_none : (s : Bool) → (s && false) ≡ false
    and_none true = refl
    and_none false = refl

    go : (e : Bool) → ends x.lo x.hi b ≡ e → 0 < bit e + count (ends x.lo x.hi) t → (0 < count (ends x.lo x.hi) t → Unequal t x ≡ false) → (not (eq_bond b x) && Unequal t x) ≡ false
    go true e h r = rw (here (eq_bond b x) refl)
      where
        two : (b x : Bond) (l : List Bond) → eq_bond b x ≡ false → ends x.lo x.hi b ≡ true → count (eq_bond b) l + count (eq_bond x) l ≤ count (ends x.lo x.hi) l
        two b x [] n q = omega arith
        two b x (y ∷ l) n q = omega (arith, one (eq_bond b y) refl (eq_bond x y) refl, two b x l n q)
          where
            one : (s : Bool) → eq_bond b y ≡ s → (t : Bool) → eq_bond x y ≡ t → bit s + bit t ≤ bit (ends x.lo x.hi y)
            one true p true w = absurd (never (eq_bond b x) (subst (λ (z : Bond). eq_bond b z ≡ true) (bond-eq b y p ∙ sym (bond-eq x y w)) (bond-same b)) n)
            one true p false w = subst (λ (z : Bond). 1 ≤ bit (ends x.lo x.hi z)) (bond-eq b y p) (rw q (omega arith))
            one false p true w = let z = eq-ends x y in let k : bit (eq_bond x y) ≡ 1 = ap bit w in omega arith
            one false p false w = omega arith

        here : (s : Bool) → eq_bond b x ≡ s → s ≡ true
        here true n = refl
        here false n = absurd (let z = two b x l n e in omega arith)
    go false e h r = rw (r (omega arith)) (and_none (not (eq_bond b x)))

all_in : (l : List Bond) → All (λ x. 0 < count (eq_bond x) l) l
all_in l = go [] l
  where
    go : (a b : List Bond) → All (λ x. 0 < count (eq_bond x) (a ++ b)) b
    go a [] = none
    go a (x ∷ b) = more {b = x} (omega (arith, count-append (eq_bond x) a (x ∷ b), ap bit (bond-same x))) (subst (λ (l : List Bond). All (λ y. 0 < count (eq_bond y) l) b) (append_assoc a (x ∷ []) b) (go (a ++ (x ∷ [])) b))

module _ (n : ℕ) (bs : List Bond) (i : Inside n bs) (d : Distinct bs) where
  abbrev F : Forest
  F = forest_of n bs

  distinct-renumbered : Distinct (renumbered n bs)
  unfolding renumbered
  distinct-renumbered = distinct-map n (pre F) (renumbering n bs i).every bs i d

  once : (b : Bond) → count (eq_bond b) (renumbered n bs) ≤ 1
  once b = let q = count-eq-ends b (renumbered n bs) in let r = distinct-renumbered b.lo b.hi in omega arith

  agree : (x : Bond) → 0 < count (eq_bond x) (renumbered n bs) → (x.lo < x.hi) × (x.hi < n) → Unequal (trees F 0) x ≡ not (eqb (get_or (ups F 0 0) x.hi 0) (suc x.lo))
  agree x h g =
      let s : size F ≡ n = sym (size-length F) ∙ (renumbering n bs i).long in
      let z : 0 + x.hi ≡ x.hi = omega arith in
      let c : count (ends x.lo x.hi) (trees F 0) ≡ bit (eqb (get_or (ups F 0 0) x.hi 0) (suc x.lo)) = rw z at (trees-up x.lo F 0 x.hi (omega arith)) in
      go (eqb (get_or (ups F 0 0) x.hi 0) (suc x.lo)) c
    where
      go : (t : Bool) → count (ends x.lo x.hi) (trees F 0) ≡ bit t → Unequal (trees F 0) x ≡ not t
      go true c =
          equal_of x (renumbered n bs) (trees F 0) (let q = once x in omega arith) (distinct-renumbered x.lo x.hi)
          (all_map (λ b. 0 < count (eq_bond b) (trees F 0)) (λ b. 0 < count (eq_bond b) (renumbered n bs)) (λ b q. (let w = within n bs i b in omega arith)) (trees F 0) (all_in (trees F 0)))
          (omega arith)
      go false c = unequal-of x (trees F 0) c

  -- THE STATEMENT
  pub unused-is : unused n bs ≡ keep (λ b. not (eqb (get_or (ups F 0 0) b.hi 0) (suc b.lo))) (renumbered n bs)
  unfolding unused
  unused-is =
      remove_all-keep (trees F 0) (renumbered n bs) once
      ∙ keep_same (Unequal (trees F 0)) (λ b. not (eqb (get_or (ups F 0 0) b.hi 0) (suc b.lo))) (renumbered n bs)
      (all_both (λ b. 0 < count (eq_bond b) (renumbered n bs)) (λ b. (b.lo < b.hi) × (b.hi < n)) (λ b. Unequal (trees F 0) b ≡ not (eqb (get_or (ups F 0 0) b.hi 0) (suc b.lo))) agree (renumbered n bs) (all_in (renumbered n bs)) (inside-renumbered n bs i))

  pub distinct-unused : Distinct (unused n bs)
  distinct-unused a c =
      let q = ap (count (ends a c)) unused-is in
      let p : Bond → Bool = λ b. not (eqb (get_or (ups F 0 0) b.hi 0) (suc b.lo)) in
      let r = keep-count (ends a c) p (renumbered n bs) in
      let s = count-and (ends a c) p (renumbered n bs) in
      let t = distinct-renumbered a c in
      omega arith
