-- The walk visits each atom once, and its tree's bonds are bonds of the molecule. Assumes nothing.
use mathlib.Core.Path.{◌≡◌, refl, sym, ap, subst}
use mathlib.Core.Bool.{Bool, true, false, ◌||◌, cond, not}
use mathlib.Core.List.{List, [], ◌∷◌, ◌++◌}
use Prim.Native.Nat.{ℕ, zero, suc, ◌+◌, ◌≤◌, ◌<◌}
use native.Mathlib.Omega.{arith}
use lib.Dec.{eqb}
use borrow.Author.Tests.{eqb-true, eqb-false}
use Rattle.kinds.specs.Kind.{turned}
use Rattle.writing_walk.specs.Token.{Bond}
use Rattle.writing_walk.specs.Emit.{Forest, leaf, node, pre}
use Rattle.writing_walk.specs.Walk.{Neighbour, neighbour, member, neighbours, visit_in_turn, walk, roots, forest_of}
pub use Rattle.writing_walk.specs.Same.{times, Once}
use Rattle.writing_walk.proofs.Count.{bit, count, count-append, never, eqb_same, All, none, more}

pub absent : (v : ℕ) (l : List ℕ) → member v l ≡ false → times v l ≡ 0
absent v [] h = refl
absent v (x ∷ l) h = go (eqb v x) h (absent v l)
  where
    go : (e : Bool) → (e || member v l) ≡ false → (member v l ≡ false → times v l ≡ 0) → bit e + times v l ≡ 0
    go true h f = absurd (never true refl h)
    go false h f = omega (arith, f h)

pub present : (v : ℕ) (l : List ℕ) → member v l ≡ true → 0 < times v l
present v [] h = absurd (never false h refl)
present v (x ∷ l) h = go (eqb v x) h (present v l)
  where
    go : (e : Bool) → (e || member v l) ≡ true → (member v l ≡ true → 0 < times v l) → 0 < bit e + times v l
    go true h f = omega arith
    go false h f = omega (arith, f h)

bit-eq : (v w : ℕ) (l : List ℕ) → times v l ≤ 1 → times w l ≡ 0 → times v l + bit (eqb v w) ≤ 1
bit-eq v w l h z = go (eqb v w) refl
  where
    go : (e : Bool) → eqb v w ≡ e → times v l + bit e ≤ 1
    go true e = let q : times v l ≡ times w l = ap (λ (x : ℕ). times x l) (eqb-true v w e) in omega arith
    go false e = omega arith

pub once-add : (s : List ℕ) (w : ℕ) → Once s → member w s ≡ false → Once (s ++ (w ∷ []))
once-add s w h m v = omega (arith, count-append (eqb v) s (w ∷ []), bit-eq v w s (h v) (absent w s m))

pub once-cast : (a b : List ℕ) → a ≡ b → Once b → Once a
once-cast a b e h v = rw e (h v)

-- a depth-first walk as a relation: trying the ways cs with s visited gives the forest
pub data Dfs (bs : List Bond) : List Neighbour → List ℕ → Forest → Type 0 where
  end : {s : List ℕ} → Dfs bs [] s leaf
  skip : {x : Neighbour} {cs : List Neighbour} {s : List ℕ} {f : Forest} → member x.to s ≡ true → Dfs bs cs s f → Dfs bs (x ∷ cs) s f
  visit : {x : Neighbour} {cs : List Neighbour} {s : List ℕ} {f g : Forest} → member x.to s ≡ false → Dfs bs (neighbours x.to bs) (s ++ (x.to ∷ [])) f → Dfs bs cs ((s ++ (x.to ∷ [])) ++ pre f) g
      → Dfs bs (x ∷ cs) s (node x.to x.kind f g)

-- the fuel is enough: it bounds the number of atoms not yet visited
abbrev pub range : ℕ → ℕ → List ℕ
range a zero = []
range a (suc d) = a ∷ range (suc a) d

abbrev left : ℕ → List ℕ → ℕ
left n s = count (λ v. not (member v s)) (range 0 n)

pub member-append : (v : ℕ) (s t : List ℕ) → member v (s ++ t) ≡ (member v s || member v t)
member-append v [] t = refl
member-append v (x ∷ s) t = go (eqb v x) (member-append v s t)
  where
    go : (e : Bool) → member v (s ++ t) ≡ (member v s || member v t) → (e || member v (s ++ t)) ≡ ((e || member v s) || member v t)
    go true h = refl
    go false h = h

count-le : (p q : ℕ → Bool) → ((x : ℕ) → bit (p x) ≤ bit (q x)) → (l : List ℕ) → count p l ≤ count q l
count-le p q h [] = omega arith
count-le p q h (x ∷ l) = omega (arith, h x, count-le p q h l)

count-lt : (p q : ℕ → Bool) → ((x : ℕ) → bit (p x) ≤ bit (q x)) → (w : ℕ) → bit (p w) < bit (q w) → (l : List ℕ) → 0 < times w l → count p l < count q l
count-lt p q h w e [] m = absurd (omega arith)
count-lt p q h w e (x ∷ l) m = go (eqb w x) refl m (count-lt p q h w e l)
  where
    go : (y : Bool) → eqb w x ≡ y → 0 < bit y + times w l → (0 < times w l → count p l < count q l) → bit (p x) + count p l < bit (q x) + count q l
    go true y m f = let d : bit (p x) < bit (q x) = subst (λ (z : ℕ). bit (p z) < bit (q z)) (eqb-true w x y) e in omega (arith, count-le p q h l)
    go false y m f = omega (arith, h x, f (omega arith))

in-range : (w a d : ℕ) → a ≤ w → w < a + d → 0 < times w (range a d)
in-range w a zero h g = absurd (omega arith)
in-range w a (suc d) h g = go (eqb w a) refl (in-range w (suc a) d)
  where
    go : (y : Bool) → eqb w a ≡ y → (suc a ≤ w → w < suc a + d → 0 < times w (range (suc a) d)) → 0 < bit y + times w (range (suc a) d)
    go true y f = omega arith
    go false y f = let z = eqb-false w a y in omega (arith, f (omega arith) (omega arith))

fewer : (a b : Bool) → bit (not (a || b)) ≤ bit (not a)
fewer true b = omega arith
fewer false true = omega arith
fewer false false = omega arith

left-append : (n : ℕ) (s t : List ℕ) → left n (s ++ t) ≤ left n s
left-append n s t = count-le (λ v. not (member v (s ++ t))) (λ v. not (member v s)) (λ v. rw (member-append v s t) (fewer (member v s) (member v t))) (range 0 n)

left-add : (n : ℕ) (s : List ℕ) (w : ℕ) → w < n → member w s ≡ false → left n (s ++ (w ∷ [])) < left n s
left-add n s w h m =
    count-lt (λ v. not (member v (s ++ (w ∷ [])))) (λ v. not (member v s)) (λ v. rw (member-append v s (w ∷ [])) (fewer (member v s) (member v (w ∷ [])))) w
    (rw (member-append w s (w ∷ []), m, eqb_same w) (omega arith)) (range 0 n) (in-range w 0 n (omega arith) (omega arith))

none_left : (n : ℕ) (s : List ℕ) → left n s ≡ 0 → (w : ℕ) → w < n → member w s ≡ true
none_left n s h w b = go (member w s) refl
  where
    go : (e : Bool) → member w s ≡ e → e ≡ true
    go true e = refl
    go false e = absurd (omega (arith, left-add n s w b e))

abbrev pub Bounded : ℕ → List Neighbour → Type 0
Bounded n cs = All (λ x. x.to < n) cs

abbrev pub Inside : ℕ → List Bond → Type 0
Inside n bs = All (λ b. (b.lo < b.hi) × (b.hi < n)) bs

pub ways-bounded : (n v : ℕ) (bs : List Bond) → Inside n bs → Bounded n (neighbours v bs)
ways-bounded n v [] none = none
ways-bounded n v (b ∷ bs) (more h a) = go (eqb b.lo v) (eqb b.hi v) (ways-bounded n v bs a)
  where
    go : (x y : Bool) → Bounded n (neighbours v bs) → Bounded n (cond x (neighbour b.hi b.kind ∷ neighbours v bs) (cond y (neighbour b.lo (turned b.kind) ∷ neighbours v bs) (neighbours v bs)))
    go true y r = more h.1 r
    go false true r = more {b = neighbour b.lo (turned b.kind)} (omega arith) r
    go false false r = r

all_seen : (n : ℕ) (bs : List Bond) (s : List ℕ) → left n s ≡ 0 → (cs : List Neighbour) → Bounded n cs → Dfs bs cs s leaf
all_seen n bs s h [] none = end
all_seen n bs s h (x ∷ cs) (more b a) = skip (none_left n s h x.to b) (all_seen n bs s h cs a)

tour-dfs : (n : ℕ) (bs : List Bond) (k : ℕ → List ℕ → Forest) (d : ℕ) → ((w : ℕ) (s : List ℕ) → left n s ≤ d → Dfs bs (neighbours w bs) s (k w s))
    → (cs : List Neighbour) → Bounded n cs → (s : List ℕ) → left n s ≤ suc d → Dfs bs cs s (visit_in_turn k cs s)
tour-dfs n bs k d kd [] none s h = end
tour-dfs n bs k d kd (x ∷ cs) (more b a) s h =
    let s1 = s ++ (x.to ∷ []) in
    let s2 = s1 ++ pre (k x.to s1) in
    go (member x.to s) refl (tour-dfs n bs k d kd cs a s h)
    (λ (m : left n s1 < left n s). visitor (kd x.to s1 (omega arith)) (tour-dfs n bs k d kd cs a s2 (let q = left-append n s1 (pre (k x.to s1)) in omega arith)))
  where
    s1 : List ℕ
    s1 = s ++ (x.to ∷ [])

    F : Forest
    F = node x.to x.kind (k x.to (s ++ (x.to ∷ []))) (visit_in_turn k cs ((s ++ (x.to ∷ [])) ++ pre (k x.to (s ++ (x.to ∷ [])))))

    visitor : Dfs bs (neighbours x.to bs) (s ++ (x.to ∷ [])) (k x.to (s ++ (x.to ∷ [])))
        → Dfs bs cs ((s ++ (x.to ∷ [])) ++ pre (k x.to (s ++ (x.to ∷ [])))) (visit_in_turn k cs ((s ++ (x.to ∷ [])) ++ pre (k x.to (s ++ (x.to ∷ [])))))
        → member x.to s ≡ false → Dfs bs (x ∷ cs) s F
    visitor f g m = visit m f g

    go : (e : Bool) → member x.to s ≡ e → Dfs bs cs s (visit_in_turn k cs s) → (left n s1 < left n s → member x.to s ≡ false → Dfs bs (x ∷ cs) s F) → Dfs bs (x ∷ cs) s (cond e (visit_in_turn k cs s) F)
    go true e r v = skip e r
    go false e r v = v (left-add n s x.to b e) e

walk-dfs : (n : ℕ) (bs : List Bond) → Inside n bs → (d v : ℕ) (s : List ℕ) → left n s ≤ d → Dfs bs (neighbours v bs) s (walk bs d v s)
walk-dfs n bs i zero v s h = all_seen n bs s (omega arith) (neighbours v bs) (ways-bounded n v bs i)
walk-dfs n bs i (suc d) v s h = tour-dfs n bs (walk bs d) d (walk-dfs n bs i d) (neighbours v bs) (ways-bounded n v bs i) s h

pub roots-bounded : (n a d : ℕ) → a + d ≤ n → Bounded n (roots a d)
roots-bounded n a zero h = none
roots-bounded n a (suc d) h = more {b = neighbour a 0} (omega arith) (roots-bounded n (suc a) d (omega arith))

range-count : (p : ℕ → Bool) (a d : ℕ) → count p (range a d) ≤ d
range-count p a zero = omega arith
range-count p a (suc d) = omega (arith, range-count p (suc a) d, small (p a))
  where
    small : (b : Bool) → bit b ≤ 1
    small true = omega arith
    small false = omega arith

-- the walk of a molecule is a depth-first walk
pub forest-dfs : (n : ℕ) (bs : List Bond) → Inside n bs → Dfs bs (roots 0 n) [] (forest_of n bs)
unfolding forest_of
forest-dfs n bs i = tour-dfs n bs (walk bs n) n (walk-dfs n bs i n) (roots 0 n) (roots-bounded n 0 n (omega arith)) [] (let q = range-count (λ v. not (member v [])) 0 n in omega arith)

-- there is only one
pub dfs-same : (bs : List Bond) {cs : List Neighbour} {s : List ℕ} {f f' : Forest} → Dfs bs cs s f → Dfs bs cs s f' → f ≡ f'
dfs-same bs end end = refl
dfs-same bs (skip m d) (skip m' d') = dfs-same bs d d'
dfs-same bs (skip {x} {s} m d) (visit m' d' e') = absurd (never (member x.to s) m m')
dfs-same bs (visit {x} {s} m d e) (skip m' d') = absurd (never (member x.to s) m' m)
dfs-same bs (visit {x} {cs} {s} {f} {g} m d e) (visit {f = f'} {g = g'} m' d' e') =
    let p : f ≡ f' = dfs-same bs d d' in
    let q : g ≡ g' = dfs-same bs e (subst (λ (z : Forest). Dfs bs cs ((s ++ (x.to ∷ [])) ++ pre z) g') (sym p) e') in
    λ i. node x.to x.kind (p i) (q i)

-- the fuel makes no difference
pub same-fuel : (n : ℕ) (bs : List Bond) → Inside n bs → (v : ℕ) (s : List ℕ) → walk bs n v s ≡ visit_in_turn (walk bs n) (neighbours v bs) s
same-fuel n bs i v s =
    let q = range-count (λ v. not (member v s)) 0 n in
    dfs-same bs (walk-dfs n bs i n v s (omega arith)) (tour-dfs n bs (walk bs n) n (walk-dfs n bs i n) (neighbours v bs) (ways-bounded n v bs i) s (omega arith))

-- trying the ways with the fuel of a molecule is a depth-first walk
pub tried-dfs : (n : ℕ) (bs : List Bond) → Inside n bs → (cs : List Neighbour) → Bounded n cs → (s : List ℕ) → Dfs bs cs s (visit_in_turn (walk bs n) cs s)
tried-dfs n bs i cs b s = let q = range-count (λ v. not (member v s)) 0 n in tour-dfs n bs (walk bs n) n (walk-dfs n bs i n) cs b s (omega arith)
