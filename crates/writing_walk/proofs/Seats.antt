-- The order in which the writer ranks an atom's bonds is the order in which the reader meets them. Assumes nothing.
use mathlib.Core.Path.{◌≡◌, refl, sym, ap, ◌∙◌, subst}
use mathlib.Core.Bool.{Bool, true, false, ◌&&◌, ◌||◌, cond}
use mathlib.Core.List.{List, [], ◌∷◌, ◌++◌}
use Prim.Native.Nat.{ℕ, zero, suc, ◌+◌, ◌-◌, ◌≤◌, ◌<◌}
use native.Mathlib.Omega.{arith}
use lib.Dec.{eqb, ltb}
use lib.ListN.{length, get_or}
use borrow.Author.Tests.{eq-eqb, ne_eqb, eqb-true, lt-ltb, le-ltb, ltb-true}
use Rattle.writing_walk.specs.Token.{Bond, bond, eq_bond}
use Rattle.writing_walk.specs.Emit.{Forest, trees}
use Rattle.writing_walk.specs.Walk.{forest_of, keep, keep_if, sweep, closing_bonds, opening_bonds, unused}
use Rattle.writing_walk.specs.Check.{ends}
use Rattle.writing_walk.specs.Flat.{ups}
use Rattle.writing_walk.specs.Keyed.{Keys, keys, index_of, rings_before, opening_time, closing_time, key_of}
use Rattle.writing_walk.specs.Ranks.{touches, other_end, key_at, walk_rank, text_rank, rank_written, rank_read, Clock}
use Rattle.writing_walk.proofs.Count.{bit, count, never, eqb_same, bond-eq, All, none, more, all_map, all_append}
use Rattle.writing_walk.proofs.Read.{Back, Tri, below, same, above, tri}
use Rattle.writing_walk.proofs.Walk.{Inside}
use Rattle.writing_walk.proofs.Trip.{keep-count, back-of, inside-unused, completed, all-has}
use Rattle.writing_walk.proofs.Twice.{Distinct, completed-inside, distinct-unused, and-turn}
use Rattle.writing_walk.proofs.Times.{completed-split, distinct-completed, bridge-apart, tree-keys, bridge-keys}
use Rattle.writing_walk.proofs.Parents.{parent-bond, parent_in, in-parent}
use Rattle.writing_walk.proofs.Ranks.{text-parent, text-child, text-bridge, walk-parent, walk-child, walk-bridge, walk-apart, text-retold, first-retold}

-- a list in which a key rises: the places follow the key
module _ (key : Bond → ℕ) where
  abbrev Rising : List Bond → Type 0
  Rising [] = Unit {0}
  Rising (b ∷ l) = All (λ x. key b < key x) l × Rising l

  index-rises : (L : List Bond) → Rising L → (b b' : Bond) → 0 < count (eq_bond b) L → 0 < count (eq_bond b') L → key b < key b' → index_of b L < index_of b' L
  index-rises [] r b b' h g k = absurd (omega arith)
  index-rises (y ∷ l) r b b' h g k = go (eq_bond b y) refl (eq_bond b' y) refl h g (index-rises l r.1 b b')
    where
      go : (e : Bool) → eq_bond b y ≡ e → (f : Bool) → eq_bond b' y ≡ f → 0 < bit e + count (eq_bond b) l → 0 < bit f + count (eq_bond b') l
          → (0 < count (eq_bond b) l → 0 < count (eq_bond b') l → key b < key b' → index_of b l < index_of b' l) → cond e 0 (suc (index_of b l)) < cond f 0 (suc (index_of b' l))
      go true e true f h g i = absurd (let p = ap key (bond-eq b y e) in let q = ap key (bond-eq b' y f) in omega arith)
      go true e false f h g i = omega arith
      go false e true f h g i = absurd (let p = all-has (λ x. key y < key x) l r.0 b (omega arith) in let q = ap key (bond-eq b' y f) in omega arith)
      go false e false f h g i = let p = i (omega arith) (omega arith) k in omega arith

  keep-key : (a : ℕ) (l : List Bond) → All (λ b. key b ≡ a) (keep (λ b. eqb (key b) a) l)
  keep-key a [] = none
  keep-key a (b ∷ l) = go (eqb (key b) a) refl (keep-key a l)
    where
      go : (e : Bool) → eqb (key b) a ≡ e → All (λ b. key b ≡ a) (keep (λ b. eqb (key b) a) l) → All (λ b. key b ≡ a) (keep_if e b (keep (λ b. eqb (key b) a) l))
      go true e r = more (eqb-true (key b) a e) r
      go false e r = r

  sweep-above : (l : List Bond) (a d : ℕ) → All (λ b. a ≤ key b) (sweep key l a d)
  sweep-above l a zero = none
  sweep-above l a (suc d) =
      all_append (λ b. a ≤ key b) (keep (λ b. eqb (key b) a) l) (sweep key l (suc a) d)
      (all_map (λ b. key b ≡ a) (λ b. a ≤ key b) (λ b h. omega arith) (keep (λ b. eqb (key b) a) l) (keep-key a l))
      (all_map (λ b. suc a ≤ key b) (λ b. a ≤ key b) (λ b h. omega arith) (sweep key l (suc a) d) (sweep-above l (suc a) d))

  -- at most one bond before those with a higher key
  rising-one : (a : ℕ) (k r : List Bond) → All (λ b. key b ≡ a) k → count (λ b. true) k ≤ 1 → All (λ b. suc a ≤ key b) r → Rising r → Rising (k ++ r)
  rising-one a [] r none h g s = s
  rising-one a (b ∷ []) r (more e none) h g s = (all_map (λ x. suc a ≤ key x) (λ x. key b < key x) (λ x p. omega arith) r g, s)
  rising-one a (b ∷ x ∷ k) r e h g s = absurd (omega arith)

  sweep-rising : (l : List Bond) → ((a : ℕ) → count (λ b. eqb (key b) a) l ≤ 1) → (a d : ℕ) → Rising (sweep key l a d)
  sweep-rising l s a zero = tt
  sweep-rising l s a (suc d) =
      rising-one a (keep (λ b. eqb (key b) a) l) (sweep key l (suc a) d) (keep-key a l) (let z = keep-count (λ b. true) (λ b. eqb (key b) a) l in let y = s a in omega arith) (sweep-above l (suc a) d) (sweep-rising l s (suc a) d)

index_below : (b : Bond) (l : List Bond) → 0 < count (eq_bond b) l → index_of b l < length l
index_below b [] h = absurd (omega arith)
index_below b (x ∷ l) h = go (eq_bond b x) h (index_below b l)
  where
    go : (e : Bool) → 0 < bit e + count (eq_bond b) l → (0 < count (eq_bond b) l → index_of b l < length l) → cond e 0 (suc (index_of b l)) < suc (length l)
    go true h f = omega arith
    go false h f = let r = f (omega arith) in omega arith

rings-later : (c o : ℕ → List Bond) (x d : ℕ) → rings_before c o x ≤ rings_before c o (x + d)
rings-later c o x zero = let e : x + 0 ≡ x = omega arith in rw e (omega arith)
rings-later c o x (suc d) = let e : x + suc d ≡ suc (x + d) = omega arith in rw e (omega (arith, rings-later c o x d))

-- a bond counted with a test that it passes
count-passes : (q : Bond → Bool) (b : Bond) → q b ≡ true → (l : List Bond) → count (λ y. eq_bond b y && q y) l ≡ count (eq_bond b) l
count-passes q b e [] = refl
count-passes q b e (y ∷ l) = omega (arith, go (eq_bond b y) refl, count-passes q b e l)
  where
    go : (x : Bool) → eq_bond b y ≡ x → bit (x && q y) ≡ bit x
    go true f = ap bit (sym (ap q (bond-eq b y f)) ∙ e)
    go false f = refl

-- two bonds of a list that joins no two atoms twice: with the same ends they are one
two-counted : (b b' : Bond) → eq_bond b b' ≡ false → b.lo ≡ b'.lo → b.hi ≡ b'.hi → (l : List Bond) → count (eq_bond b) l + count (eq_bond b') l ≤ count (ends b.lo b.hi) l
two-counted b b' n p q [] = omega arith
two-counted b b' n p q (y ∷ l) = omega (arith, go (eq_bond b y) refl (eq_bond b' y) refl, two-counted b b' n p q l)
  where
    ended : (z : Bond) → z ≡ y → b.lo ≡ z.lo → b.hi ≡ z.hi → 1 ≤ bit (ends b.lo b.hi y)
    ended z e p q = subst (λ (y : Bond). 1 ≤ bit (ends b.lo b.hi y)) e (rw (eq-eqb z.lo b.lo (sym p), eq-eqb z.hi b.hi (sym q)) (omega arith))

    go : (e : Bool) → eq_bond b y ≡ e → (f : Bool) → eq_bond b' y ≡ f → bit e + bit f ≤ bit (ends b.lo b.hi y)
    go true e true f = absurd (never (eq_bond b b') (ap (eq_bond b) (bond-eq b' y f) ∙ e) n)
    go true e false f = ended b (bond-eq b y e) refl refl
    go false e true f = ended b' (bond-eq b' y f) p q
    go false e false f = omega arith

pub same-bond : (l : List Bond) → Distinct l → (b b' : Bond) → 0 < count (eq_bond b) l → 0 < count (eq_bond b') l → b.lo ≡ b'.lo → b.hi ≡ b'.hi → b ≡ b'
same-bond l d b b' h g p q = go (eq_bond b b') refl
  where
    go : (e : Bool) → eq_bond b b' ≡ e → b ≡ b'
    go true e = bond-eq b b' e
    go false e = absurd (omega (arith, d b.lo b.hi, two-counted b b' e p q l))

-- the other end and the key at either end
other-low : (b : Bond) → other_end b.lo b ≡ b.hi
other-low b = rw (eqb_same b.lo)

other-high : (b : Bond) → b.lo < b.hi → other_end b.hi b ≡ b.lo
other-high b h = rw (ne_eqb b.lo b.hi (omega arith))

key-low : (b : Bond) (k : Keys) → key_at b.lo b k ≡ k.low
key-low b k = rw (eqb_same b.lo)

key-high : (b : Bond) (k : Keys) → b.lo < b.hi → key_at b.hi b k ≡ k.high
key-high b k h = rw (ne_eqb b.lo b.hi (omega arith))

-- where a bond stands among those at the atom x: big is at least every key, p is the bond's key at x
module _ (n : ℕ) (bs : List Bond) (i : Inside n bs) (d : Distinct bs) where
  abbrev F : Forest
  F = forest_of n bs

  abbrev U : List ℕ
  U = ups F 0 0

  abbrev N : List Bond
  N = unused n bs

  abbrev C : ℕ → List Bond
  C = closing_bonds n N

  abbrev O : ℕ → List Bond
  O = opening_bonds n N

  abbrev In : Bond → Type 0
  In b = 0 < count (eq_bond b) (completed n bs)

  abbrev W : ℕ → Bond → ℕ
  W x b = walk_rank n U x (other_end x b)

  abbrev X : ℕ → ℕ → Bond → ℕ
  X big x b = text_rank big x (key_at x b (key_of n bs b)) b.hi

  data Seat (big x : ℕ) (b : Bond) : Type 0 where
    parent : b.hi ≡ x → W x b ≡ 0 → X big x b ≡ 0 → Seat big x b
    closing : b.hi ≡ x → 0 < count (eq_bond b) (C x) → W x b ≡ b.lo + 2 → X big x b ≡ suc (suc (rings_before C O x + index_of b (C x))) → Seat big x b
    opening : b.lo ≡ x → 0 < count (eq_bond b) (O x) → W x b ≡ b.hi + 2 → X big x b ≡ suc (suc (rings_before C O x + length (C x) + index_of b (O x))) → Seat big x b
    child : b.lo ≡ x → W x b ≡ n + 2 + b.hi → X big x b ≡ big + 2 + b.hi → Seat big x b

  inside : (b : Bond) → In b → (b.lo < b.hi) × (b.hi < n)
  inside b h = all-has (λ b. (b.lo < b.hi) × (b.hi < n)) (completed n bs) (completed-inside n bs i) b h

  -- no parent comes after its child
  parent-before : (x y : ℕ) → get_or U y 0 ≡ suc x → x < y
  parent-before x y e =
      let r = parent_in F x y e in
      let q = completed-split n bs i (eq_bond (bond x y r.0)) in
      (inside (bond x y r.0) (let s = r.1 in omega arith)).0

  back-N : Back N C O
  back-N = back-of n N (inside-unused n bs i)

  not-up : (b : Bond) → 0 < count (eq_bond b) N → get_or U b.hi 0 ≡ suc b.lo → ⊥
  not-up b h e = omega (arith, bridge-apart n bs i d b h, parent-bond F b.lo b.hi, ap bit (eq-eqb (get_or U b.hi 0) (suc b.lo) e))

  module _ (big : ℕ) where
    parent-seat : (b : Bond) → In b → 0 < count (eq_bond b) (trees F 0) → Seat big b.hi b
    parent-seat b h t =
        let o = other-high b (inside b h).0 in
        let k = key-high b (key_of n bs b) (inside b h).0 ∙ ap (λ (y : Keys). y.high) (tree-keys n bs i d b t) in
        parent refl (ap (walk_rank n U b.hi) o ∙ walk-parent n U b.hi b.lo (in-parent F b t)) (ap (λ (p : ℕ). text_rank big b.hi p b.hi) k ∙ text-parent big b.hi)

    closing-seat : (b : Bond) → In b → 0 < count (eq_bond b) N → Seat big b.hi b
    closing-seat b h t =
        let l = (inside b h).0 in
        let o = other-high b l in
        let k = key-high b (key_of n bs b) l ∙ ap (λ (y : Keys). y.high) (bridge-keys n bs i d b t) in
        closing refl (let z = back-N.closes b.hi (eq_bond b) in let y = count-passes (λ y. eqb y.hi b.hi) b (eqb_same b.hi) N in omega arith)
        (ap (walk_rank n U b.hi) o ∙ walk-bridge n U b.hi b.lo (not-up b t) (λ e. let q = parent-before b.hi b.lo e in omega arith))
        (ap (λ (p : ℕ). text_rank big b.hi p b.hi) k ∙ text-bridge big b.hi (rings_before C O b.hi + index_of b (C b.hi)) b.hi)

    opening-seat : (b : Bond) → In b → 0 < count (eq_bond b) N → Seat big b.lo b
    opening-seat b h t =
        let l = (inside b h).0 in
        let o = other-low b in
        let k = key-low b (key_of n bs b) ∙ ap (λ (y : Keys). y.low) (bridge-keys n bs i d b t) in
        opening refl (let z = back-N.opens b.lo (eq_bond b) in let y = count-passes (λ y. eqb y.lo b.lo) b (eqb_same b.lo) N in omega arith)
        (ap (walk_rank n U b.lo) o ∙ walk-bridge n U b.lo b.hi (λ e. let q = parent-before b.hi b.lo e in omega arith) (not-up b t))
        (ap (λ (p : ℕ). text_rank big b.lo p b.hi) k ∙ text-bridge big b.lo (rings_before C O b.lo + length (C b.lo) + index_of b (O b.lo)) b.hi)

    child-seat : (b : Bond) → In b → 0 < count (eq_bond b) (trees F 0) → Seat big b.lo b
    child-seat b h t =
        let l = (inside b h).0 in
        let o = other-low b in
        let k = key-low b (key_of n bs b) ∙ ap (λ (y : Keys). y.low) (tree-keys n bs i d b t) in
        child refl (ap (walk_rank n U b.lo) o ∙ walk-child n U b.lo b.hi (λ e. let q = parent-before b.hi b.lo e in omega arith) (in-parent F b t))
        (ap (λ (p : ℕ). text_rank big b.lo p b.hi) k ∙ text-child big b.lo b.hi l)

    -- every bond at x has its seat
    seat : (x : ℕ) (b : Bond) → In b → touches x b ≡ true → Seat big x b
    seat x b h t = go (count (eq_bond b) (trees F 0)) refl (eqb b.lo x) refl (eqb b.hi x) refl t
      where
        go : (m : ℕ) → count (eq_bond b) (trees F 0) ≡ m → (p : Bool) → eqb b.lo x ≡ p → (q : Bool) → eqb b.hi x ≡ q → (p || q) ≡ true → Seat big x b
        go zero m true p q r t = subst (λ (y : ℕ). Seat big y b) (eqb-true b.lo x p) (opening-seat b h (let s = completed-split n bs i (eq_bond b) in omega arith))
        go zero m false p true r t = subst (λ (y : ℕ). Seat big y b) (eqb-true b.hi x r) (closing-seat b h (let s = completed-split n bs i (eq_bond b) in omega arith))
        go zero m false p false r t = absurd (never false t refl)
        go (suc z) m true p q r t = subst (λ (y : ℕ). Seat big y b) (eqb-true b.lo x p) (child-seat b h (omega arith))
        go (suc z) m false p true r t = subst (λ (y : ℕ). Seat big y b) (eqb-true b.hi x r) (parent-seat b h (omega arith))
        go (suc z) m false p false r t = absurd (never false t refl)

    -- the places of the closings and of the openings at x follow the other ends
    closings-rise : (x : ℕ) (b b' : Bond) → 0 < count (eq_bond b) (C x) → 0 < count (eq_bond b') (C x) → b.lo < b'.lo → index_of b (C x) < index_of b' (C x)
    closings-rise x b b' =
        index-rises (λ b. b.lo) (C x)
        (sweep-rising (λ b. b.lo) (keep (λ b. eqb b.hi x) N) (λ a. let z = keep-count (λ b. eqb b.lo a) (λ b. eqb b.hi x) N in let y = distinct-unused n bs i d a x in omega arith) 0 n) b b'

    openings-rise : (x : ℕ) (b b' : Bond) → 0 < count (eq_bond b) (O x) → 0 < count (eq_bond b') (O x) → b.hi < b'.hi → index_of b (O x) < index_of b' (O x)
    openings-rise x b b' =
        index-rises (λ b. b.hi) (O x)
        (sweep-rising (λ b. b.hi) (keep (λ b. eqb b.lo x) N)
        (λ a. let z = keep-count (λ b. eqb b.hi a) (λ b. eqb b.lo x) N in let y = distinct-unused n bs i d x a in let w = and-turn (λ b. eqb b.hi a) (λ b. eqb b.lo x) N in omega arith) 0 n) b b'

    room : (x : ℕ) → x < n → rings_before C O x + (length (C x) + length (O x)) ≤ rings_before C O n
    room x h = let e : suc x + (n - suc x) ≡ n = omega arith in rw e at (rings-later C O (suc x) (n - suc x))

    follows : rings_before C O n ≤ big → (x : ℕ) (b b' : Bond) → x < n → In b → In b' → Seat big x b → Seat big x b' → W x b < W x b' → X big x b < X big x b'
    follows z x b b' v h g (parent p w r) (parent p' w' r') l = absurd (omega arith)
    follows z x b b' v h g (parent p w r) (closing p' m' w' r') l = omega arith
    follows z x b b' v h g (parent p w r) (opening p' m' w' r') l = omega arith
    follows z x b b' v h g (parent p w r) (child p' w' r') l = omega arith
    follows z x b b' v h g (closing p m w r) (parent p' w' r') l = absurd (omega arith)
    follows z x b b' v h g (closing p m w r) (closing p' m' w' r') l = let q = closings-rise x b b' m m' (omega arith) in omega arith
    follows z x b b' v h g (closing p m w r) (opening p' m' w' r') l = let q = index_below b (C x) m in omega arith
    follows z x b b' v h g (closing p m w r) (child p' w' r') l = let q = index_below b (C x) m in let y = room x v in omega arith
    follows z x b b' v h g (opening p m w r) (parent p' w' r') l = absurd (omega arith)
    follows z x b b' v h g (opening p m w r) (closing p' m' w' r') l = absurd (let q = inside b h in let y = inside b' g in omega arith)
    follows z x b b' v h g (opening p m w r) (opening p' m' w' r') l = let q = openings-rise x b b' m m' (omega arith) in omega arith
    follows z x b b' v h g (opening p m w r) (child p' w' r') l = let q = index_below b (O x) m in let y = room x v in omega arith
    follows z x b b' v h g (child p w r) (parent p' w' r') l = absurd (omega arith)
    follows z x b b' v h g (child p w r) (closing p' m' w' r') l = absurd (let q = inside b h in let y = inside b' g in omega arith)
    follows z x b b' v h g (child p w r) (opening p' m' w' r') l = absurd (let q = inside b h in let y = inside b' g in omega arith)
    follows z x b b' v h g (child p w r) (child p' w' r') l = omega arith

touched : (x : ℕ) (b : Bond) → touches x b ≡ true → (n : ℕ) → b.lo < b.hi → b.hi < n → (x < n) × (other_end x b < n)
touched x b t n l h = go (eqb b.lo x) refl (eqb b.hi x) refl t
  where
    go : (p : Bool) → eqb b.lo x ≡ p → (q : Bool) → eqb b.hi x ≡ q → (p || q) ≡ true → (x < n) × (cond p b.hi b.lo < n)
    go true p q r t = let e = eqb-true b.lo x p in (omega arith, h)
    go false p true r t = let e = eqb-true b.hi x r in (omega arith, omega arith)
    go false p false r t = absurd (never false t refl)

-- the bonds at an atom that go to the same atom have the same ends
same-other : (x : ℕ) (b b' : Bond) → b.lo < b.hi → b'.lo < b'.hi → touches x b ≡ true → touches x b' ≡ true → other_end x b ≡ other_end x b' → (b.lo ≡ b'.lo) × (b.hi ≡ b'.hi)
same-other x b b' l l' t t' e = go (eqb b.lo x) refl (eqb b.hi x) refl (eqb b'.lo x) refl (eqb b'.hi x) refl t t' e
  where
    go : (p : Bool) → eqb b.lo x ≡ p → (q : Bool) → eqb b.hi x ≡ q → (p' : Bool) → eqb b'.lo x ≡ p' → (q' : Bool) → eqb b'.hi x ≡ q' → (p || q) ≡ true → (p' || q') ≡ true
        → cond p b.hi b.lo ≡ cond p' b'.hi b'.lo → (b.lo ≡ b'.lo) × (b.hi ≡ b'.hi)
    go true p q r true p' q' r' t t' e = (eqb-true b.lo x p ∙ sym (eqb-true b'.lo x p'), e)
    go true p q r false p' true r' t t' e = absurd (let u = eqb-true b.lo x p in let v = eqb-true b'.hi x r' in omega arith)
    go true p q r false p' false r' t t' e = absurd (never false t' refl)
    go false p true r true p' q' r' t t' e = absurd (let u = eqb-true b.hi x r in let v = eqb-true b'.lo x p' in omega arith)
    go false p true r false p' true r' t t' e = (e, eqb-true b.hi x r ∙ sym (eqb-true b'.hi x r'))
    go false p true r false p' false r' t t' e = absurd (never false t' refl)
    go false p false r p' s q' r' t t' e = absurd (never false t refl)

-- a bond at x of those that are read from what was written of n atoms with the bonds bs
abbrev pub ReadAt : ℕ → List Bond → ℕ → Bond → Type 0
ReadAt n bs x b = (0 < count (eq_bond b) (completed n bs)) × (touches x b ≡ true)

module _ (n : ℕ) (bs : List Bond) (i : Inside n bs) (d : Distinct bs) (x : ℕ) where
  -- a bond at an atom is told by its other end
  pub other-tells : (b b' : Bond) → ReadAt n bs x b → ReadAt n bs x b' → other_end x b ≡ other_end x b' → b ≡ b'
  other-tells b b' h g e =
      let l = inside n bs i d b h.0 in
      let l' = inside n bs i d b' g.0 in
      let s = same-other x b b' l.0 l'.0 h.1 g.1 e in
      same-bond (completed n bs) (distinct-completed n bs i d) b b' h.0 g.0 s.0 s.1

  pub other-below : (b : Bond) → ReadAt n bs x b → other_end x b < n
  other-below b h = let l = inside n bs i d b h.0 in (touched x b h.1 n l.0 l.1).1

  -- no two bonds at an atom have the same rank as they are written
  pub written_apart : (b b' : Bond) → ReadAt n bs x b → ReadAt n bs x b' → rank_written n bs x b ≡ rank_written n bs x b' → b ≡ b'
  written_apart b b' h g e = other-tells b b' h g (walk-apart n (ups (forest_of n bs) 0 0) x (other_end x b) (other_end x b') (other-below b h) (other-below b' g) e)

-- as many ring tokens as stand in what is written of n atoms with the bonds bs
abbrev pub ring_tokens : ℕ → List Bond → ℕ
ring_tokens n bs = rings_before (closing_bonds n (unused n bs)) (opening_bonds n (unused n bs)) n

-- the bonds at the walk number x in what is read: no key is later than the last ring token
module _ (n : ℕ) (bs : List Bond) (i : Inside n bs) (d : Distinct bs) (x : ℕ) where
  opening-bound : (b : Bond) → 0 < count (eq_bond b) (completed n bs) → 0 < count (eq_bond b) (unused n bs) → opening_time (closing_bonds n (unused n bs)) (opening_bonds n (unused n bs)) b ≤ ring_tokens n bs
  opening-bound b h t =
      let l = inside n bs i d b h in
      let z = (back-N n bs i d).opens b.lo (eq_bond b) in
      let y = count-passes (λ y. eqb y.lo b.lo) b (eqb_same b.lo) (unused n bs) in
      let u = index_below b (opening_bonds n (unused n bs) b.lo) (omega arith) in
      let v = room n bs i d 0 b.lo (omega arith) in
      omega arith

  closing-bound : (b : Bond) → 0 < count (eq_bond b) (completed n bs) → 0 < count (eq_bond b) (unused n bs) → closing_time (closing_bonds n (unused n bs)) (opening_bonds n (unused n bs)) b ≤ ring_tokens n bs
  closing-bound b h t =
      let l = inside n bs i d b h in
      let z = (back-N n bs i d).closes b.hi (eq_bond b) in
      let y = count-passes (λ y. eqb y.hi b.hi) b (eqb_same b.hi) (unused n bs) in
      let u = index_below b (closing_bonds n (unused n bs) b.hi) (omega arith) in
      let v = room n bs i d 0 b.hi l.1 in
      omega arith

  pub key-bound : (b : Bond) → ReadAt n bs x b → key_at x b (key_of n bs b) ≤ ring_tokens n bs
  key-bound b h = go (count (eq_bond b) (trees (forest_of n bs) 0)) refl
    where
      either : (p q m : ℕ) → p ≤ m → q ≤ m → key_at x b (keys p q) ≤ m
      either p q m f g = two (eqb b.lo x)
        where
          two : (e : Bool) → cond e p q ≤ m
          two true = f
          two false = g

      go : (m : ℕ) → count (eq_bond b) (trees (forest_of n bs) 0) ≡ m → key_at x b (key_of n bs b) ≤ ring_tokens n bs
      go zero e =
          let t : 0 < count (eq_bond b) (unused n bs) = (let s = completed-split n bs i (eq_bond b) in omega arith) in
          rw (bridge-keys n bs i d b t)
          (either (opening_time (closing_bonds n (unused n bs)) (opening_bonds n (unused n bs)) b) (closing_time (closing_bonds n (unused n bs)) (opening_bonds n (unused n bs)) b) (ring_tokens n bs) (opening-bound b h.0 t) (closing-bound b h.0 t))
      go (suc m) e = rw (tree-keys n bs i d b (omega arith)) (either 0 0 (ring_tokens n bs) (omega arith) (omega arith))

  module _ (clock : ℕ → ℕ) (big : ℕ) (c : Clock clock (ring_tokens n bs)) (large : clock (ring_tokens n bs) ≤ big) where
    -- by times, with the last time itself for a bound
    abbrev timed : Bond → ℕ
    timed b = text_rank (ring_tokens n bs) x (key_at x b (key_of n bs b)) b.hi

    retold : (b b' : Bond) → ReadAt n bs x b → ReadAt n bs x b' → ltb (rank_read clock big n bs x b) (rank_read clock big n bs x b') ≡ ltb (timed b) (timed b')
    retold b b' h g =
        text-retold clock (ring_tokens n bs) c (ring_tokens n bs) big (omega arith) large x (key_at x b (key_of n bs b)) b.hi (key_at x b' (key_of n bs b')) b'.hi (key-bound b h) (key-bound b' g)

    lower : (b b' : Bond) → ReadAt n bs x b → ReadAt n bs x b' → rank_written n bs x b < rank_written n bs x b' → timed b < timed b'
    lower b b' h g =
        let l = inside n bs i d b h.0 in
        follows n bs i d (ring_tokens n bs) (omega arith) x b b' (touched x b h.1 n l.0 l.1).0 h.0 g.0 (seat n bs i d (ring_tokens n bs) x b h.0 h.1) (seat n bs i d (ring_tokens n bs) x b' g.0 g.1)

    -- THE STATEMENTS: of two bonds at an atom, the one with the lower rank as they are written has the lower rank as they are read
    pub ranks-alike : (b b' : Bond) → ReadAt n bs x b → ReadAt n bs x b' → ltb (rank_read clock big n bs x b) (rank_read clock big n bs x b') ≡ ltb (rank_written n bs x b) (rank_written n bs x b')
    ranks-alike b b' h g = retold b b' h g ∙ go (tri (rank_written n bs x b) (rank_written n bs x b'))
      where
        go : Tri (rank_written n bs x b) (rank_written n bs x b') → ltb (timed b) (timed b') ≡ ltb (rank_written n bs x b) (rank_written n bs x b')
        go (below l) = lt-ltb (timed b) (timed b') (lower b b' h g l) ∙ sym (lt-ltb (rank_written n bs x b) (rank_written n bs x b') l)
        go (same e) =
            le-ltb (timed b) (timed b') (let r = ap timed (written_apart n bs i d x b b' h g e) in omega arith) ∙ sym (le-ltb (rank_written n bs x b) (rank_written n bs x b') (omega arith))
        go (above l) = le-ltb (timed b) (timed b') (let q = lower b' b g h l in omega arith) ∙ sym (le-ltb (rank_written n bs x b) (rank_written n bs x b') (omega arith))

    -- the hydrogen's rank is 1 in both: the same bonds stand before it
    pub first_alike : (b : Bond) → ReadAt n bs x b → ltb (rank_read clock big n bs x b) 1 ≡ ltb (rank_written n bs x b) 1
    first_alike b h =
        first-retold clock (ring_tokens n bs) c (ring_tokens n bs) big (omega arith) large x (key_at x b (key_of n bs b)) b.hi (key-bound b h)
        ∙ go (seat n bs i d (ring_tokens n bs) x b h.0 h.1)
      where
        go : Seat n bs i d (ring_tokens n bs) x b → ltb (timed b) 1 ≡ ltb (rank_written n bs x b) 1
        go (parent p w r) = lt-ltb (timed b) 1 (omega arith) ∙ sym (lt-ltb (rank_written n bs x b) 1 (omega arith))
        go (closing p m w r) = le-ltb (timed b) 1 (omega arith) ∙ sym (le-ltb (rank_written n bs x b) 1 (omega arith))
        go (opening p m w r) = le-ltb (timed b) 1 (omega arith) ∙ sym (le-ltb (rank_written n bs x b) 1 (omega arith))
        go (child p w r) = le-ltb (timed b) 1 (omega arith) ∙ sym (le-ltb (rank_written n bs x b) 1 (omega arith))

    -- no two bonds at an atom have the same rank as they are read
    pub read-apart : (b b' : Bond) → ReadAt n bs x b → ReadAt n bs x b' → rank_read clock big n bs x b ≡ rank_read clock big n bs x b' → b ≡ b'
    read-apart b b' h g e = go (tri (rank_written n bs x b) (rank_written n bs x b'))
      where
        not_lower : (b b' : Bond) → ReadAt n bs x b → ReadAt n bs x b' → rank_read clock big n bs x b ≡ rank_read clock big n bs x b' → rank_written n bs x b < rank_written n bs x b' → ⊥
        not_lower b b' h g e l =
            let q = ltb-true (rank_read clock big n bs x b) (rank_read clock big n bs x b') (ranks-alike b b' h g ∙ lt-ltb (rank_written n bs x b) (rank_written n bs x b') l) in
            omega arith

        go : Tri (rank_written n bs x b) (rank_written n bs x b') → b ≡ b'
        go (below l) = absurd (not_lower b b' h g e l)
        go (same r) = written_apart n bs i d x b b' h g r
        go (above l) = absurd (not_lower b' b g h (sym e) l)
