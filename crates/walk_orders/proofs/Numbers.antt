-- The bonds at an atom by number and by other end. Assumes nothing.
use Prim.Native.Nat.{ℕ, zero, suc, ◌+◌, ◌≤◌, ◌<◌}
use native.Mathlib.Omega.{arith}
use mathlib.Core.Path.{◌≡◌, refl, sym, ap, ◌∙◌, subst}
use mathlib.Core.Bool.{Bool, true, false, not, ◌&&◌, ◌||◌, cond}
use mathlib.Core.List.{List, [], ◌∷◌, map}
use lib.Dec.{eqb, ltb}
use lib.ListN.{length}
use borrow.Author.Tests.{ne_eqb, eqb-true, eqb-false, lt-ltb, ltb-true, not-true}
use Rattle.parity.specs.Parity.{absent, unlike, below, ascending}
use Rattle.writing_walk.specs.Token.{Bond, eq_bond}
use Rattle.writing_walk.specs.Walk.{keep, keep_if}
use Rattle.writing_walk.specs.Check.{ends}
use Rattle.writing_walk.specs.Same.{bit, count, All, none, more}
use Rattle.writing_walk.specs.Keyed.{index_of}
use Rattle.writing_walk.specs.Ranks.{touches, other_end}
use Rattle.writing_walk.proofs.Count.{and_left, and_right, eqb_same, bond-same, bond-eq, all_map}
use Rattle.writing_walk.proofs.Trip.{eqb-turn}
use Rattle.writing_walk.proofs.Read.{Tri, tri}
use Rattle.writing_walk.proofs.Walk.{Inside}
use Rattle.writing_walk.proofs.Twice.{Distinct, count_less}
use Rattle.walk_orders.specs.Orders.{bond_at, numbers_from, numbers_at}

-- the other ends of the bonds at x, in turn
abbrev pub ends_at : ℕ → List Bond → List ℕ
ends_at x l = map (other_end x) (keep (touches x) l)

module _ (x : ℕ) where
  -- what is said of the numbers is said of the bonds
  numbers-from : {A : Type 0} (g : ℕ → A) (f : Bond → A) (l : List Bond) (a : ℕ) → ((j : ℕ) → j < length l → touches x (bond_at l j) ≡ true → g (a + j) ≡ f (bond_at l j))
      → map g (numbers_from x l a) ≡ map f (keep (touches x) l)
  numbers-from g f [] a h = refl
  numbers-from {A = A} g f (c ∷ l) a h =
      go (touches x c) (λ t. (let e : a + 0 ≡ a = omega arith in rw e at (h 0 (omega arith) t)))
      (numbers-from g f l (suc a) (λ j k t. let e : a + suc j ≡ suc a + j = omega arith in rw e at (h (suc j) (omega arith) t)))
    where
      go : (t : Bool) → (t ≡ true → g a ≡ f c) → map g (numbers_from x l (suc a)) ≡ map f (keep (touches x) l)
          → map g (cond t (a ∷ numbers_from x l (suc a)) (numbers_from x l (suc a))) ≡ map f (keep_if t c (keep (touches x) l))
      go true e r = λ i. e refl i ∷ r i
      go false e r = r

  pub numbers-map : {A : Type 0} (g : ℕ → A) (f : Bond → A) (l : List Bond) → ((j : ℕ) → j < length l → touches x (bond_at l j) ≡ true → g j ≡ f (bond_at l j)) → map g (numbers_at x l) ≡ map f (keep (touches x) l)
  unfolding numbers_at
  numbers-map g f l h = numbers-from g f l 0 (λ j k t. let e : 0 + j ≡ j = omega arith in rw e (h j k t))

  -- they ascend
  from-below : (z : ℕ) (l : List Bond) (a : ℕ) → z < a → below z (numbers_from x l a) ≡ true
  unfolding below
  from-below z [] a h = refl
  from-below z (c ∷ l) a h = go (touches x c) (from-below z l (suc a) (omega arith))
    where
      go : (t : Bool) → below z (numbers_from x l (suc a)) ≡ true → below z (cond t (a ∷ numbers_from x l (suc a)) (numbers_from x l (suc a))) ≡ true
      go true r = rw (lt-ltb z a h) r
      go false r = r

  from-ascending : (l : List Bond) (a : ℕ) → ascending (numbers_from x l a) ≡ true
  unfolding ascending
  from-ascending [] a = refl
  from-ascending (c ∷ l) a = go (touches x c) (from-ascending l (suc a))
    where
      go : (t : Bool) → ascending (numbers_from x l (suc a)) ≡ true → ascending (cond t (a ∷ numbers_from x l (suc a)) (numbers_from x l (suc a))) ≡ true
      go true r = rw (from-below a l (suc a) (omega arith)) r
      go false r = r

  pub numbers-ascend : (l : List Bond) → ascending (numbers_at x l) ≡ true
  unfolding numbers_at
  numbers-ascend l = from-ascending l 0

-- an ascending list holds nothing twice
below-absent : (x : ℕ) (l : List ℕ) → below x l ≡ true → absent x l ≡ true
unfolding below absent
below-absent x [] h = refl
below-absent x (y ∷ l) h =
    let q = ltb-true x y (and_left (ltb x y) (below x l) h) in
    rw (ne_eqb x y (omega arith)) (below-absent x l (and_right (ltb x y) (below x l) h))

pub ascending-unlike : (l : List ℕ) → ascending l ≡ true → unlike l ≡ true
unfolding ascending unlike
ascending-unlike [] h = refl
ascending-unlike (x ∷ l) h = rw (below-absent x l (and_left (below x l) (ascending l) h)) (ascending-unlike l (and_right (below x l) (ascending l) h))

-- nor one in which each number is counted once
count-absent : (x : ℕ) (l : List ℕ) → count (eqb x) l ≡ 0 → absent x l ≡ true
unfolding absent
count-absent x [] h = refl
count-absent x (y ∷ l) h = go (eqb x y) h (count-absent x l)
  where
    go : (e : Bool) → bit e + count (eqb x) l ≡ 0 → (count (eqb x) l ≡ 0 → absent x l ≡ true) → (not e && absent x l) ≡ true
    go true h f = absurd (omega arith)
    go false h f = f (omega arith)

pub once-unlike : (l : List ℕ) → ((y : ℕ) → count (eqb y) l ≤ 1) → unlike l ≡ true
unfolding unlike
once-unlike [] h = refl
once-unlike (x ∷ l) h =
    rw (count-absent x l (let q = h x in let e = ap bit (eqb_same x) in omega arith)) (once-unlike l (λ y. let q = h y in omega arith))

-- nor its image under ranks that tell apart all of which P holds
module _ (P : ℕ → Type 0) (f : ℕ → ℕ) (apart : (y z : ℕ) → P y → P z → f y ≡ f z → y ≡ z) where
  absent-map : (y : ℕ) (l : List ℕ) → P y → All P l → absent y l ≡ true → absent (f y) (map f l) ≡ true
  unfolding absent
  absent-map y [] h none a = refl
  absent-map y (z ∷ l) h (more g r) a =
      let e = eqb-false y z (not-true (eqb y z) (and_left (not (eqb y z)) (absent y l) a)) in
      rw (ne_eqb (f y) (f z) (λ q. e (apart y z h g q))) (absent-map y l h r (and_right (not (eqb y z)) (absent y l) a))

  pub unlike-map : (l : List ℕ) → All P l → unlike l ≡ true → unlike (map f l) ≡ true
  unfolding unlike
  unlike-map [] none u = refl
  unlike-map (y ∷ l) (more h r) u = rw (absent-map y l h r (and_left (absent y l) (unlike l) u)) (unlike-map l r (and_right (absent y l) (unlike l) u))

-- a rank that none has
pub absent-rank : (r : ℕ) (f : ℕ → ℕ) → ((y : ℕ) → f y ≡ r → ⊥) → (l : List ℕ) → absent r (map f l) ≡ true
unfolding absent
absent-rank r f h [] = refl
absent-rank r f h (y ∷ l) = rw (ne_eqb r (f y) (λ e. h y (sym e))) (absent-rank r f h l)

-- the place of the one bond that passes a test
abbrev pub first_of : (Bond → Bool) → List Bond → ℕ
first_of p [] = 0
first_of p (b ∷ l) = cond (p b) 0 (suc (first_of p l))

at-passes : (p : Bond → Bool) (l : List Bond) (j : ℕ) → j < length l → p (bond_at l j) ≡ true → 0 < count p l
at-passes p [] j h e = absurd (omega arith)
at-passes p (b ∷ l) zero h e = let q = ap bit e in omega arith
at-passes p (b ∷ l) (suc j) h e = let q = at-passes p l j (omega arith) e in omega arith

pub first-only : (p : Bond → Bool) (l : List Bond) → count p l ≤ 1 → (j : ℕ) → j < length l → p (bond_at l j) ≡ true → first_of p l ≡ j
first-only p [] c j h e = absurd (omega arith)
first-only p (b ∷ l) c zero h e = rw e
first-only p (b ∷ l) c (suc j) h e = go (p b) c (first-only p l (omega arith) j (omega arith) e)
  where
    go : (x : Bool) → bit x + count p l ≤ 1 → first_of p l ≡ j → cond x 0 (suc (first_of p l)) ≡ suc j
    go true c r = absurd (let q = at-passes p l j (omega arith) e in omega arith)
    go false c r = ap suc r

-- the place of a bond of the list
pub index-found : (b : Bond) (l : List Bond) → 0 < count (eq_bond b) l → (index_of b l < length l) × (bond_at l (index_of b l) ≡ b)
index-found b [] h = absurd (omega arith)
index-found b (x ∷ l) h = go (eq_bond b x) refl h (index-found b l)
  where
    go : (e : Bool) → eq_bond b x ≡ e → 0 < bit e + count (eq_bond b) l → (0 < count (eq_bond b) l → (index_of b l < length l) × (bond_at l (index_of b l) ≡ b))
        → (cond e 0 (suc (index_of b l)) < length (x ∷ l)) × (bond_at (x ∷ l) (cond e 0 (suc (index_of b l))) ≡ b)
    go true e h f = (omega arith, sym (bond-eq b x e))
    go false e h f = let r = f (omega arith) in (omega arith, r.1)

pub at-counted : (l : List Bond) (j : ℕ) → j < length l → 0 < count (eq_bond (bond_at l j)) l
at-counted l j h = at-passes (eq_bond (bond_at l j)) l j h (bond-same (bond_at l j))

-- the bond between x and y
abbrev pub joins : ℕ → ℕ → Bond → Bool
joins x y b = touches x b && eqb (other_end x b) y

abbrev pub number_to : ℕ → List Bond → ℕ → ℕ
number_to x l y = first_of (joins x y) l

-- a bond that joins x and y has them for its ends
joined-up : (x y : ℕ) → x < y → (b : Bond) → b.lo < b.hi → bit (joins x y b) ≤ bit (ends x y b)
joined-up x y h b l = go (eqb b.lo x) refl (eqb b.hi x) refl
  where
    go : (p : Bool) → eqb b.lo x ≡ p → (q : Bool) → eqb b.hi x ≡ q → bit ((p || q) && eqb (cond p b.hi b.lo) y) ≤ bit (p && eqb b.hi y)
    go true p q r = omega arith
    go false p true r = let e = eqb-true b.hi x r in rw (ne_eqb b.lo y (omega arith)) (omega arith)
    go false p false r = omega arith

joined-down : (x y : ℕ) → y < x → (b : Bond) → b.lo < b.hi → bit (joins x y b) ≤ bit (ends y x b)
joined-down x y h b l = go (eqb b.lo x) refl (eqb b.hi x) refl (eqb b.lo y) refl
  where
    go : (p : Bool) → eqb b.lo x ≡ p → (q : Bool) → eqb b.hi x ≡ q → (z : Bool) → eqb b.lo y ≡ z → bit ((p || q) && eqb (cond p b.hi b.lo) y) ≤ bit (z && q)
    go true p q r z s = let e = eqb-true b.lo x p in rw (ne_eqb b.hi y (omega arith)) (omega arith)
    go false p true r true s = rw s (omega arith)
    go false p true r false s = rw s (omega arith)
    go false p false r z s = omega arith

not_itself : (x : ℕ) (b : Bond) → b.lo < b.hi → bit (joins x x b) ≤ 0
not_itself x b l = go (eqb b.lo x) refl (eqb b.hi x) refl
  where
    go : (p : Bool) → eqb b.lo x ≡ p → (q : Bool) → eqb b.hi x ≡ q → bit ((p || q) && eqb (cond p b.hi b.lo) x) ≤ 0
    go true p q r = let e = eqb-true b.lo x p in rw (ne_eqb b.hi x (omega arith)) (omega arith)
    go false p true r = rw p (omega arith)
    go false p false r = omega arith

count_none : (l : List Bond) → count (λ b. false) l ≡ 0
count_none [] = refl
count_none (b ∷ l) = omega (arith, count_none l)

pub map-map : {A B : Type 0} (f : A → B) (g : Bond → A) (l : List Bond) → map f (map g l) ≡ map (λ b. f (g b)) l
map-map f g [] = refl
map-map {B = B} f g (b ∷ l) = ap (λ (r : List B). f (g b) ∷ r) (map-map f g l)

pub map_same : (l : List ℕ) → map (λ (b : ℕ). b) l ≡ l
map_same [] = refl
map_same (b ∷ l) = ap (λ (r : List ℕ). b ∷ r) (map_same l)

count-ends-at : (x y : ℕ) (l : List Bond) → count (eqb y) (ends_at x l) ≡ count (joins x y) l
count-ends-at x y [] = refl
count-ends-at x y (b ∷ l) = go (touches x b) (count-ends-at x y l)
  where
    go : (t : Bool) → count (eqb y) (ends_at x l) ≡ count (joins x y) l → count (eqb y) (map (other_end x) (keep_if t b (keep (touches x) l))) ≡ bit (t && eqb (other_end x b) y) + count (joins x y) l
    go true r = let e = ap bit (eqb-turn y (other_end x b)) in omega arith
    go false r = omega arith

-- no two atoms are joined twice, seen from either
module _ (n : ℕ) (l : List Bond) (i : Inside n l) (d : Distinct l) where
  pub joined_once : (x y : ℕ) → count (joins x y) l ≤ 1
  joined_once x y = go (tri x y)
    where
      go : Tri x y → count (joins x y) l ≤ 1
      go (Tri.below h) = let q = count_less (joins x y) (ends x y) l (all_map (λ b. (b.lo < b.hi) × (b.hi < n)) (λ b. bit (joins x y b) ≤ bit (ends x y b)) (λ b g. joined-up x y h b g.0) l i) in let r = d x y in omega arith
      go (Tri.above h) = let q = count_less (joins x y) (ends y x) l (all_map (λ b. (b.lo < b.hi) × (b.hi < n)) (λ b. bit (joins x y b) ≤ bit (ends y x b)) (λ b g. joined-down x y h b g.0) l i) in let r = d y x in omega arith
      go (Tri.same h) = subst (λ (z : ℕ). count (joins x z) l ≤ 1) h
          (let q = count_less (joins x x) (λ b. false) l (all_map (λ b. (b.lo < b.hi) × (b.hi < n)) (λ b. bit (joins x x b) ≤ 0) (λ b g. not_itself x b g.0) l i) in let r = count_none l in omega arith)

  -- THE STATEMENTS: the number of a bond at x is found by its other end; the other ends differ and are atoms
  pub number-back : (x j : ℕ) → j < length l → touches x (bond_at l j) ≡ true → number_to x l (other_end x (bond_at l j)) ≡ j
  number-back x j h t = first-only (joins x (other_end x (bond_at l j))) l (joined_once x (other_end x (bond_at l j))) j h (rw (t, eqb_same (other_end x (bond_at l j))))

  pub numbers-back : (x : ℕ) → map (number_to x l) (ends_at x l) ≡ numbers_at x l
  numbers-back x =
      map-map (number_to x l) (other_end x) (keep (touches x) l)
      ∙ sym (numbers-map x (λ j. j) (λ b. number_to x l (other_end x b)) l (λ j h t. sym (number-back x j h t)))
      ∙ map_same (numbers_at x l)

  pub ends-unlike : (x : ℕ) → unlike (ends_at x l) ≡ true
  ends-unlike x = once-unlike (ends_at x l) (λ y. let q = count-ends-at x y l in let r = joined_once x y in omega arith)

-- each other end of a bond at x is found by the number of its bond
pub all-ends : (P : ℕ → Type 0) (x : ℕ) (l : List Bond) → ((j : ℕ) → j < length l → touches x (bond_at l j) ≡ true → P (other_end x (bond_at l j))) → All P (ends_at x l)
all-ends P x [] h = none
all-ends P x (b ∷ l) h = go (touches x b) (λ t. h 0 (omega arith) t) (all-ends P x l (λ j k t. h (suc j) (omega arith) t))
  where
    go : (t : Bool) → (t ≡ true → P (other_end x b)) → All P (ends_at x l) → All P (map (other_end x) (keep_if t b (keep (touches x) l)))
    go true e r = more (e refl) r
    go false e r = r
