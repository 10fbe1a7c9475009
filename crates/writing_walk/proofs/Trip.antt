-- Reading what was written gives the molecule under the walk's renumbering. Assumes nothing.
use mathlib.Core.Path.{◌≡◌, refl, sym, ap, ◌∙◌, subst}
use mathlib.Core.Bool.{Bool, true, false, ◌&&◌, cond}
use mathlib.Core.List.{List, [], ◌∷◌, ◌++◌, map, append_assoc, append-nil}
use Prim.Native.Nat.{ℕ, zero, suc, ◌+◌, ◌≤◌, ◌<◌}
use native.Mathlib.Omega.{arith}
use lib.Dec.{eqb, ltb}
use lib.ListN.{length, length-append}
use borrow.Author.Tests.{eq-eqb, ne_eqb, eqb-true, eqb-false, lt-ltb, le-ltb}
use Rattle.kinds.proofs.Kind.{turned-twice}
use Rattle.kinds.specs.Kind.{turned}
use Rattle.writing_walk.specs.Token.{Bond, bond, eq_bond}
use Rattle.writing_walk.specs.Reading.{Closure, st, run_tokens, start_tokens, shut}
use Rattle.writing_walk.specs.Emit.{Forest, leaf, node, size, pre, done, done_all, tree, trees}
use Rattle.writing_walk.specs.Walk.{Neighbour, neighbour, member, neighbours, roots, forest_of, place, renumber, remove, remove_all, keep_if, keep, sweep, closing_bonds, opening_bonds, relabel, renumbered, unused, write}
use Rattle.writing_walk.proofs.Count.{bit, count, count-append, eqb_same, bond-same, bond-eq, All, none, more, all_map, all_append, nobody}
use Rattle.writing_walk.proofs.Read.{Back, Tri, below, same, above, tri}
use Rattle.writing_walk.proofs.Whole.{before-suc, and-sum, and-true, and-false, count-all, readback}
use Rattle.writing_walk.proofs.Walk.{times, Once, once-cast, once-add, present, Dfs, end, skip, visit, Bounded, Inside, ways-bounded, roots-bounded, forest-dfs}

-- each atom once
pub dfs-once : (bs : List Bond) {cs : List Neighbour} {s : List ℕ} {f : Forest} → Dfs bs cs s f → Once s → Once (s ++ pre f)
dfs-once bs (end {s}) h = once-cast (s ++ []) s (append-nil s) h
dfs-once bs (skip m d) h = dfs-once bs d h
dfs-once bs (visit {x} {s} {f} {g} m d e) h =
    once-cast (s ++ (x.to ∷ (pre f ++ pre g))) (((s ++ (x.to ∷ [])) ++ pre f) ++ pre g) (simp append_assoc) (dfs-once bs e (dfs-once bs d (once-add s x.to h m)))

here : (w : ℕ) (a b : List ℕ) → 0 < times w (a ++ (w ∷ b))
here w a b = omega (arith, count-append (eqb w) a (w ∷ b), ap bit (eqb_same w))

grows : (w : ℕ) (a b : List ℕ) → 0 < times w a → 0 < times w (a ++ b)
grows w a b h = omega (arith, count-append (eqb w) a b)

seen : (w : ℕ) (s : List ℕ) (f : Forest) → member w s ≡ true → 0 < times w (s ++ pre f)
seen w s f m = grows w s (pre f) (present w s m)

-- the end of each way that is tried is visited after it
pub dfs-all : (bs : List Bond) {cs : List Neighbour} {s : List ℕ} {f : Forest} → Dfs bs cs s f → All (λ x. 0 < times x.to (s ++ pre f)) cs
dfs-all bs end = none
dfs-all bs (skip {x} {s} {f} m d) = more (seen x.to s f m) (dfs-all bs d)
dfs-all bs (visit {x} {cs} {s} {f} {g} m d e) =
    let q : ((s ++ (x.to ∷ [])) ++ pre f) ++ pre g ≡ s ++ (x.to ∷ (pre f ++ pre g)) = simp append_assoc in
    more (here x.to s (pre f ++ pre g)) (rw q at (dfs-all bs e))

pub dfs-below : (n : ℕ) (bs : List Bond) → Inside n bs → {cs : List Neighbour} {s : List ℕ} {f : Forest} → Dfs bs cs s f → Bounded n cs → All (λ v. v < n) (pre f)
dfs-below n bs i end none = none
dfs-below n bs i (skip m d) (more b a) = dfs-below n bs i d a
dfs-below n bs i (visit {x} {f} {g} m d e) (more b a) = more b (all_append (λ v. v < n) (pre f) (pre g) (dfs-below n bs i d (ways-bounded n x.to bs i)) (dfs-below n bs i e a))

-- places
pub size-length : (f : Forest) → length (pre f) ≡ size f
size-length leaf = refl
size-length (node w k f g) = ap suc (length-append (pre f) (pre g) ∙ (λ i. size-length f i + size-length g i))

pub place_at : (w : ℕ) (a b : List ℕ) → times w a ≡ 0 → place (a ++ (w ∷ b)) w ≡ length a
place_at w [] b h = rw (eqb_same w)
place_at w (x ∷ a) b h = go (eqb w x) h (place_at w a b)
  where
    go : (e : Bool) → bit e + times w a ≡ 0 → (times w a ≡ 0 → place (a ++ (w ∷ b)) w ≡ length a) → cond e 0 (suc (place (a ++ (w ∷ b)) w)) ≡ suc (length a)
    go true h f = absurd (omega arith)
    go false h f = ap suc (f (omega arith))

pub placed : (order : List ℕ) → Once order → (w : ℕ) (a b : List ℕ) → order ≡ a ++ (w ∷ b) → place order w ≡ length a
placed order o w a b e =
    let z : times w a ≡ 0 = omega (arith, o w, ap (times w) e, count-append (eqb w) a (w ∷ b), ap bit (eqb_same w)) in
    ap (λ (l : List ℕ). place l w) e ∙ place_at w a b z

pub place-lt : (v : ℕ) (l : List ℕ) → 0 < times v l → place l v < length l
place-lt v [] h = absurd (omega arith)
place-lt v (x ∷ l) h = go (eqb v x) h (place-lt v l)
  where
    go : (e : Bool) → 0 < bit e + times v l → (0 < times v l → place l v < length l) → cond e 0 (suc (place l v)) < suc (length l)
    go true h f = omega arith
    go false h f = omega (arith, f (omega arith))

pub place-inj : (v w : ℕ) (l : List ℕ) → 0 < times v l → 0 < times w l → place l v ≡ place l w → v ≡ w
place-inj v w [] h g e = absurd (omega arith)
place-inj v w (x ∷ l) h g e = go (eqb v x) refl (eqb w x) refl h g e (place-inj v w l)
  where
    go : (a : Bool) → eqb v x ≡ a → (b : Bool) → eqb w x ≡ b → 0 < bit a + times v l → 0 < bit b + times w l → cond a 0 (suc (place l v)) ≡ cond b 0 (suc (place l w))
        → (0 < times v l → 0 < times w l → place l v ≡ place l w → v ≡ w) → v ≡ w
    go true p true q h g e f = eqb-true v x p ∙ sym (eqb-true w x q)
    go true p false q h g e f = absurd (omega arith)
    go false p true q h g e f = absurd (omega arith)
    go false p false q h g e f = f (omega arith) (omega arith) (omega arith)

-- a bond of the molecule in either direction
abbrev pub Joins : List Bond → ℕ → Neighbour → Type 0
Joins bs v x = 0 < count (eq_bond (bond v x.to x.kind)) bs + count (eq_bond (bond x.to v (turned x.kind))) bs

joins-more : (b : Bond) (bs : List Bond) (v : ℕ) (x : Neighbour) → Joins bs v x → Joins (b ∷ bs) v x
joins-more b bs v x h = omega arith

ways-join : (v : ℕ) (bs : List Bond) → All (Joins bs v) (neighbours v bs)
ways-join v [] = none
ways-join v (b ∷ bs) = go (eqb b.lo v) refl (eqb b.hi v) refl (all_map (Joins bs v) (Joins (b ∷ bs) v) (joins-more b bs v) (neighbours v bs) (ways-join v bs))
  where
    go : (x : Bool) → eqb b.lo v ≡ x → (y : Bool) → eqb b.hi v ≡ y → All (Joins (b ∷ bs) v) (neighbours v bs)
        → All (Joins (b ∷ bs) v) (cond x (neighbour b.hi b.kind ∷ neighbours v bs) (cond y (neighbour b.lo (turned b.kind) ∷ neighbours v bs) (neighbours v bs)))
    go true p y q r = more {b = neighbour b.hi b.kind} (let z : eq_bond (bond v b.hi b.kind) b ≡ true = rw (eq-eqb v b.lo (sym (eqb-true b.lo v p)), eqb_same b.hi, eqb_same b.kind) in omega (arith, ap bit z)) r
    go false p true q r = more {b = neighbour b.lo (turned b.kind)} (let z : eq_bond (bond b.lo v (turned (turned b.kind))) b ≡ true = rw (turned-twice b.kind, eqb_same b.lo, eq-eqb v b.hi (sym (eqb-true b.hi v q)), eqb_same b.kind) in omega (arith, ap bit z)) r
    go false p false q r = r

pub in_map : (f : Bond → Bond) (b : Bond) (l : List Bond) → 0 < count (eq_bond b) l → 0 < count (eq_bond (f b)) (map f l)
in_map f b [] h = absurd (omega arith)
in_map f b (x ∷ l) h = go (eq_bond b x) refl h (in_map f b l)
  where
    go : (e : Bool) → eq_bond b x ≡ e → 0 < bit e + count (eq_bond b) l → (0 < count (eq_bond b) l → 0 < count (eq_bond (f b)) (map f l)) → 0 < bit (eq_bond (f b) (f x)) + count (eq_bond (f b)) (map f l)
    go true e h r = let z : eq_bond (f b) (f x) ≡ true = rw (← bond-eq b x e) (bond-same (f b)) in omega (arith, ap bit z)
    go false e h r = omega (arith, r (omega arith))

either : (a b : ℕ) {P : Type 0} → 0 < a + b → (0 < a → P) → (0 < b → P) → P
either zero b h f g = g (omega arith)
either (suc a) b h f g = f (omega arith)

-- a way that was taken is a bond of the renumbered molecule
taken : (order : List ℕ) (bs : List Bond) (v h n : ℕ) (x : Neighbour) → place order v ≡ h → place order x.to ≡ n → h < n → Joins bs v x → 0 < count (eq_bond (bond h n x.kind)) (map (renumber order) bs)
taken order bs v h n x p q l j =
    either (count (eq_bond (bond v x.to x.kind)) bs) (count (eq_bond (bond x.to v (turned x.kind))) bs) j
    (λ c. let z : renumber order (bond v x.to x.kind) ≡ bond h n x.kind = rw (p, q, lt-ltb h n l) in rw z at (in_map (renumber order) (bond v x.to x.kind) bs c))
    (λ c. let z : renumber order (bond x.to v (turned x.kind)) ≡ bond h n x.kind = rw (p, q, le-ltb n h (omega arith), turned-twice x.kind) in rw z at (in_map (renumber order) (bond x.to v (turned x.kind)) bs c))

-- the bonds of the walk's forest are bonds of the renumbered molecule
module _ (order : List ℕ) (bs : List Bond) (o : Once order) where
  abbrev Has : Bond → Type 0
  Has b = 0 < count (eq_bond b) (map (renumber order) bs)

  pub dfs-has : {cs : List Neighbour} {s : List ℕ} {F : Forest} → Dfs bs cs s F → (z : List ℕ) → order ≡ s ++ (pre F ++ z) → (n : ℕ) → length s ≡ n → (v h : ℕ) → place order v ≡ h → h < n → All (Joins bs v) cs → All Has (tree F h n)
  dfs-has end z e n l v h p g none = none
  dfs-has (skip m d) z e n l v h p g (more j a) = dfs-has d z e n l v h p g a
  dfs-has (visit {x} {cs} {s} {f = F} {g = G} m d c) z e n l v h p g (more j a) =
      let e1 : order ≡ (s ++ (x.to ∷ [])) ++ (pre F ++ (pre G ++ z)) = e ∙ simp append_assoc in
      let e2 : order ≡ ((s ++ (x.to ∷ [])) ++ pre F) ++ (pre G ++ z) = e ∙ simp append_assoc in
      let q : place order x.to ≡ n = placed order o x.to s ((pre F ++ pre G) ++ z) e ∙ l in
      let l1 : length (s ++ (x.to ∷ [])) ≡ suc n = length-append s (x.to ∷ []) ∙ omega arith in
      let l2 : length ((s ++ (x.to ∷ [])) ++ pre F) ≡ suc n + size F = length-append (s ++ (x.to ∷ [])) (pre F) ∙ (λ i. l1 i + size-length F i) in
      more (taken order bs v h n x p q g j)
      (all_append Has (tree F n (suc n)) (tree G h (suc n + size F))
      (dfs-has d (pre G ++ z) e1 (suc n) l1 x.to n q (omega arith) (ways-join x.to bs))
      (dfs-has c z e2 (suc n + size F) l2 v h p (omega arith) a))

  roots-have : {cs : List Neighbour} {s : List ℕ} {F : Forest} → Dfs bs cs s F → (z : List ℕ) → order ≡ s ++ (pre F ++ z) → (n : ℕ) → length s ≡ n → All Has (trees F n)
  roots-have end z e n l = none
  roots-have (skip m d) z e n l = roots-have d z e n l
  roots-have (visit {x} {cs} {s} {f = F} {g = G} m d c) z e n l =
      let e1 : order ≡ (s ++ (x.to ∷ [])) ++ (pre F ++ (pre G ++ z)) = e ∙ simp append_assoc in
      let e2 : order ≡ ((s ++ (x.to ∷ [])) ++ pre F) ++ (pre G ++ z) = e ∙ simp append_assoc in
      let q : place order x.to ≡ n = placed order o x.to s ((pre F ++ pre G) ++ z) e ∙ l in
      let l1 : length (s ++ (x.to ∷ [])) ≡ suc n = length-append s (x.to ∷ []) ∙ omega arith in
      let l2 : length ((s ++ (x.to ∷ [])) ++ pre F) ≡ suc n + size F = length-append (s ++ (x.to ∷ [])) (pre F) ∙ (λ i. l1 i + size-length F i) in
      all_append Has (tree F n (suc n)) (trees G (suc n + size F))
      (dfs-has d (pre G ++ z) e1 (suc n) l1 x.to n q (omega arith) (ways-join x.to bs))
      (roots-have c z e2 (suc n + size F) l2)

-- the forest's bonds differ: each has its own higher end
eq-hi : (b : Bond) (h n k : ℕ) → bit (eq_bond b (bond h n k)) ≤ bit (eqb b.hi n)
eq-hi b h n k = go (eqb b.lo h) (eqb b.hi n) (eqb b.kind k)
  where
    go : (x y z : Bool) → bit (x && (y && z)) ≤ bit y
    go true true true = omega arith
    go true true false = omega arith
    go true false z = omega arith
    go false y z = omega arith

tree-once : (b : Bond) (F : Forest) (h n : ℕ) → count (eq_bond b) (tree F h n) + bit (ltb b.hi n) ≤ bit (ltb b.hi (n + size F))
tree-once b leaf h n = let e : n + 0 ≡ n = omega arith in rw e (omega arith)
tree-once b (node w j f g) h n =
    let e : n + suc (size f + size g) ≡ suc n + size f + size g = omega arith in
    rw e (omega (arith, count-append (eq_bond b) (tree f n (suc n)) (tree g h (suc n + size f)), eq-hi b h n j, before-suc b.hi n, tree-once b f n (suc n), tree-once b g h (suc n + size f)))

pub trees-once : (b : Bond) (F : Forest) (n : ℕ) → count (eq_bond b) (trees F n) + bit (ltb b.hi n) ≤ bit (ltb b.hi (n + size F))
trees-once b leaf n = let e : n + 0 ≡ n = omega arith in rw e (omega arith)
trees-once b (node w j f g) n =
    let e : n + suc (size f + size g) ≡ suc n + size f + size g = omega arith in
    rw e (omega (arith, count-append (eq_bond b) (tree f n (suc n)) (trees g (suc n + size f)), before-suc b.hi n, tree-once b f n (suc n), trees-once b g (suc n + size f)))

-- taking bonds out
pub remove-count : (p : Bond → Bool) (b : Bond) (l : List Bond) → 0 < count (eq_bond b) l → count p l ≡ bit (p b) + count p (remove b l)
remove-count p b [] h = absurd (omega arith)
remove-count p b (x ∷ l) h = go (eq_bond b x) refl h (remove-count p b l)
  where
    go : (e : Bool) → eq_bond b x ≡ e → 0 < bit e + count (eq_bond b) l → (0 < count (eq_bond b) l → count p l ≡ bit (p b) + count p (remove b l)) → bit (p x) + count p l ≡ bit (p b) + count p (cond e l (x ∷ remove b l))
    go true e h f = ap (λ (y : Bond). bit (p y) + count p l) (sym (bond-eq b x e))
    go false e h f = omega (arith, f (omega arith))

pub remove-all : (t m : List Bond) → ((b : Bond) → count (eq_bond b) t ≤ count (eq_bond b) m) → (p : Bond → Bool) → count p m ≡ count p t + count p (remove_all t m)
remove-all [] m h p = omega arith
remove-all (b ∷ t) m h p =
    let i : 0 < count (eq_bond b) m = omega (arith, h b, ap bit (bond-same b)) in
    omega (arith, remove-count p b m i, remove-all t (remove b m) (λ a. let r = remove-count (eq_bond a) b m i in let s = h a in omega arith) p)

all_remove : (P : Bond → Type 0) (b : Bond) (l : List Bond) → All P l → All P (remove b l)
all_remove P b [] none = none
all_remove P b (x ∷ l) (more h a) = go (eq_bond b x) (all_remove P b l a)
  where
    go : (e : Bool) → All P (remove b l) → All P (cond e l (x ∷ remove b l))
    go true r = a
    go false r = more h r

pub all-remove_all : (P : Bond → Type 0) (t l : List Bond) → All P l → All P (remove_all t l)
all-remove_all P [] l a = a
all-remove_all P (b ∷ t) l a = all-remove_all P t (remove b l) (all_remove P b l a)

pub all-has : (P : Bond → Type 0) (l : List Bond) → All P l → (b : Bond) → 0 < count (eq_bond b) l → P b
all-has P [] none b h = absurd (omega arith)
all-has P (x ∷ l) (more q a) b h = go (eq_bond b x) refl h (all-has P l a b)
  where
    go : (e : Bool) → eq_bond b x ≡ e → 0 < bit e + count (eq_bond b) l → (0 < count (eq_bond b) l → P b) → P b
    go true e h f = subst P (sym (bond-eq b x e)) q
    go false e h f = f (omega arith)

-- the renumbered bonds
renumber-inside : (order : List ℕ) (n : ℕ) → ((v : ℕ) → v < n → 0 < times v order) → (b : Bond) → (b.lo < b.hi) × (b.hi < n) → ((renumber order b).lo < (renumber order b).hi) × ((renumber order b).hi < length order)
renumber-inside order n all b h = go (tri (place order b.lo) (place order b.hi))
  where
    t1 : 0 < times b.lo order
    t1 = all b.lo (omega arith)

    t2 : 0 < times b.hi order
    t2 = all b.hi (omega arith)

    go : Tri (place order b.lo) (place order b.hi) → ((renumber order b).lo < (renumber order b).hi) × ((renumber order b).hi < length order)
    go (below g) = rw (lt-ltb (place order b.lo) (place order b.hi) g) (g, place-lt b.hi order t2)
    go (same g) = absurd (let z = place-inj b.lo b.hi order t1 t2 g in omega arith)
    go (above g) = rw (le-ltb (place order b.lo) (place order b.hi) (omega arith)) (g, place-lt b.lo order t1)

all-renumber : (order : List ℕ) (n : ℕ) → ((v : ℕ) → v < n → 0 < times v order) → (bs : List Bond) → Inside n bs → Inside (length order) (map (renumber order) bs)
all-renumber order n all [] none = none
all-renumber order n all (b ∷ bs) (more h a) = more (renumber-inside order n all b h) (all-renumber order n all bs a)

-- the sweeps
pub keep-count : (p q : Bond → Bool) (l : List Bond) → count p (keep q l) ≡ count (λ b. p b && q b) l
keep-count p q [] = refl
keep-count p q (b ∷ l) = go (q b) (keep-count p q l)
  where
    go : (e : Bool) → count p (keep q l) ≡ count (λ b. p b && q b) l → count p (keep_if e b (keep q l)) ≡ bit (p b && e) + count (λ b. p b && q b) l
    go true h = rw (and-true (p b)) (omega arith)
    go false h = rw (and-false (p b)) (omega arith)

key-suc : (p : Bond → Bool) (key : Bond → ℕ) (n : ℕ) (l : List Bond) → count (λ b. p b && ltb (key b) (suc n)) l ≡ count (λ b. p b && ltb (key b) n) l + count (λ b. p b && eqb (key b) n) l
key-suc p key n [] = refl
key-suc p key n (b ∷ l) = omega (arith, and-sum (p b) (ltb (key b) (suc n)) (ltb (key b) n) (eqb (key b) n) (before-suc (key b) n), key-suc p key n l)

sweep-count : (p : Bond → Bool) (key : Bond → ℕ) (l : List Bond) (a d : ℕ) → count p (sweep key l a d) + count (λ b. p b && ltb (key b) a) l ≡ count (λ b. p b && ltb (key b) (a + d)) l
sweep-count p key l a zero = let e : a + 0 ≡ a = omega arith in rw e (omega arith)
sweep-count p key l a (suc d) =
    let e : a + suc d ≡ suc a + d = omega arith in
    rw e (omega (arith, count-append p (keep (λ b. eqb (key b) a) l) (sweep key l (suc a) d), keep-count p (λ b. eqb (key b) a) l, key-suc p key a l, sweep-count p key l (suc a) d))

pub all_keep : (P : Bond → Type 0) (q : Bond → Bool) (l : List Bond) → All P l → All P (keep q l)
all_keep P q [] none = none
all_keep P q (b ∷ l) (more h a) = go (q b) (all_keep P q l a)
  where
    go : (e : Bool) → All P (keep q l) → All P (keep_if e b (keep q l))
    go true r = more h r
    go false r = r

sweep-all : (p : Bond → Bool) (key : Bond → ℕ) (m : ℕ) (l : List Bond) → All (λ b. key b < m) l → count p (sweep key l 0 m) ≡ count p l
sweep-all p key m l a = omega (
  arith,
  sweep-count p key l 0 m,
  nobody p (λ b. ltb (key b) 0) l (all_map (λ b. key b < m) (λ b. (p b && ltb (key b) 0) ≡ false) (λ b h. rw (le-ltb (key b) 0 (omega arith)) (and-false (p b))) l a),
  count-all p (λ b. ltb (key b) (0 + m)) l (all_map (λ b. key b < m) (λ b. ltb (key b) (0 + m) ≡ true) (λ b h. lt-ltb (key b) (0 + m) (omega arith)) l a),
)

pub back-of : (m : ℕ) (N : List Bond) → Inside m N → Back N (closing_bonds m N) (opening_bonds m N)
back-of m N i = record {
  ordered = all_map (λ b. (b.lo < b.hi) × (b.hi < m)) (λ b. b.lo < b.hi) (λ b h. h.0) N i;
  closes = λ n p. sweep-all p (λ b. b.lo) m (keep (λ b. eqb b.hi n) N) (all_keep (λ b. b.lo < m) (λ b. eqb b.hi n) N (all_map (λ b. (b.lo < b.hi) × (b.hi < m)) (λ b. b.lo < m) (λ b h. omega arith) N i)) ∙ keep-count p (λ b. eqb b.hi n) N;
  opens = λ n p. sweep-all p (λ b. b.hi) m (keep (λ b. eqb b.lo n) N) (all_keep (λ b. b.hi < m) (λ b. eqb b.lo n) N (all_map (λ b. (b.lo < b.hi) × (b.hi < m)) (λ b. b.hi < m) (λ b h. h.1) N i)) ∙ keep-count p (λ b. eqb b.lo n) N;
}

-- the payloads
pre-relabel : (pay : ℕ → ℕ) (F : Forest) → pre (relabel pay F) ≡ map pay (pre F)
pre-relabel pay leaf = refl
pre-relabel pay (node w k f g) = ap (λ (l : List ℕ). pay w ∷ l) ((λ i. pre-relabel pay f i ++ pre-relabel pay g i) ∙ sym (map-append (pre f) (pre g)))
  where
    map-append : (a b : List ℕ) → map pay (a ++ b) ≡ map pay a ++ map pay b
    map-append [] b = refl
    map-append (x ∷ a) b = ap (λ (l : List ℕ). pay x ∷ l) (map-append a b)

pub size-relabel : (pay : ℕ → ℕ) (F : Forest) → size (relabel pay F) ≡ size F
size-relabel pay leaf = refl
size-relabel pay (node w k f g) = λ i. suc (size-relabel pay f i + size-relabel pay g i)

module _ (c o : ℕ → List Bond) (pay : ℕ → ℕ) where
  done-relabel : (F : Forest) (h n : ℕ) → done c o (relabel pay F) h n ≡ done c o F h n
  done-relabel leaf h n = refl
  done-relabel (node w k f g) h n = rw (size-relabel pay f, done-relabel f n (suc n), done-relabel g h (suc n + size f))

  pub done_all-relabel : (F : Forest) (n : ℕ) → done_all c o (relabel pay F) n ≡ done_all c o F n
  done_all-relabel leaf n = refl
  done_all-relabel (node w k f g) n = rw (size-relabel pay f, done-relabel f n (suc n), done_all-relabel g (suc n + size f))

tree-relabel : (pay : ℕ → ℕ) (F : Forest) (h n : ℕ) → tree (relabel pay F) h n ≡ tree F h n
tree-relabel pay leaf h n = refl
tree-relabel pay (node w k f g) h n = rw (size-relabel pay f, tree-relabel pay f n (suc n), tree-relabel pay g h (suc n + size f))

pub trees-relabel : (pay : ℕ → ℕ) (F : Forest) (n : ℕ) → trees (relabel pay F) n ≡ trees F n
trees-relabel pay leaf n = refl
trees-relabel pay (node w k f g) n = rw (size-relabel pay f, tree-relabel pay f n (suc n), trees-relabel pay g (suc n + size f))

-- as many atoms as the walk visits
pub eqb-turn : (a b : ℕ) → eqb a b ≡ eqb b a
eqb-turn a b = go (eqb a b) refl
  where
    go : (x : Bool) → eqb a b ≡ x → x ≡ eqb b a
    go true e = sym (eq-eqb b a (sym (eqb-true a b e)))
    go false e = sym (ne_eqb b a (λ q. eqb-false a b e (sym q)))

pub below_suc : (n : ℕ) (l : List ℕ) → count (λ v. ltb v (suc n)) l ≡ count (λ v. ltb v n) l + times n l
below_suc n [] = refl
below_suc n (x ∷ l) = omega (arith, before-suc x n, ap bit (eqb-turn x n), below_suc n l)

below-count : (n : ℕ) (l : List ℕ) → ((v : ℕ) → v < n → times v l ≡ 1) → count (λ v. ltb v n) l ≡ n
below-count zero l h = none_below l
  where
    none_below : (l : List ℕ) → count (λ v. ltb v 0) l ≡ 0
    none_below [] = refl
    none_below (x ∷ l) = omega (arith, ap bit (le-ltb x 0 (omega arith)), none_below l)
below-count (suc n) l h = omega (arith, below_suc n l, below-count n l (λ v g. h v (omega arith)), h n (omega arith))

pub all-count : (n : ℕ) (l : List ℕ) → All (λ v. v < n) l → count (λ v. ltb v n) l ≡ length l
all-count n [] none = refl
all-count n (x ∷ l) (more h a) = omega (arith, ap bit (lt-ltb x n h), all-count n l a)

pub roots-all : (P : ℕ → Type 0) (a d : ℕ) → All (λ x. P x.to) (roots a d) → (v : ℕ) → a ≤ v → v < a + d → P v
roots-all P a zero none v h g = absurd (omega arith)
roots-all P a (suc d) (more q r) v h g = go (eqb a v) refl (roots-all P (suc a) d r v)
  where
    go : (e : Bool) → eqb a v ≡ e → (suc a ≤ v → v < suc a + d → P v) → P v
    go true e f = subst P (eqb-true a v e) q
    go false e f = let z = eqb-false a v e in f (omega arith) (omega arith)

-- THE WALK: each atom of the molecule stands once in the order
pub record Renumbering (n : ℕ) (order : List ℕ) : Type 0 where
  pub once : Once order
  pub every : (v : ℕ) → v < n → 0 < times v order
  pub inside : All (λ v. v < n) order
  pub long : length order ≡ n

pub renumbering : (n : ℕ) (bs : List Bond) → Inside n bs → Renumbering n (pre (forest_of n bs))
renumbering n bs i =
    let F = forest_of n bs in
    let d = forest-dfs n bs i in
    let o : Once (pre F) = dfs-once bs d (λ v. omega arith) in
    let e : (v : ℕ) → v < n → 0 < times v (pre F) = λ v h. roots-all (λ v. 0 < times v (pre F)) 0 n (dfs-all bs d) v (omega arith) (omega arith) in
    let b : All (λ v. v < n) (pre F) = dfs-below n bs i d (roots-bounded n 0 n (omega arith)) in
    record { once = o; every = e; inside = b; long = sym (all-count n (pre F) b) ∙ below-count n (pre F) (λ v h. let p = o v in let q = e v h in omega arith) }

-- the forest's bonds are among the renumbered ones
pub within : (n : ℕ) (bs : List Bond) → Inside n bs → (b : Bond) → count (eq_bond b) (trees (forest_of n bs) 0) ≤ count (eq_bond b) (renumbered n bs)
unfolding renumbered
within n bs i b = go (count (eq_bond b) (trees F 0)) refl
  where
    F : Forest
    F = forest_of n bs

    has : All (λ b. 0 < count (eq_bond b) (map (renumber (pre F)) bs)) (trees F 0)
    has = roots-have (pre F) bs (renumbering n bs i).once (forest-dfs n bs i) [] (sym (append-nil (pre F))) 0 refl

    small : (b : Bool) → bit b ≤ 1
    small true = omega arith
    small false = omega arith

    go : (k : ℕ) → count (eq_bond b) (trees F 0) ≡ k → k ≤ count (eq_bond b) (map (renumber (pre F)) bs)
    go zero e = omega arith
    go (suc k) e =
        let p = all-has (λ b. 0 < count (eq_bond b) (map (renumber (pre F)) bs)) (trees F 0) has b (omega arith) in
        let q = trees-once b F 0 in
        let r = small (ltb b.hi (0 + size F)) in
        omega arith

pub inside-renumbered : (n : ℕ) (bs : List Bond) → Inside n bs → Inside n (renumbered n bs)
unfolding renumbered
inside-renumbered n bs i = let r = renumbering n bs i in rw r.long at (all-renumber (pre (forest_of n bs)) n r.every bs i)

pub inside-unused : (n : ℕ) (bs : List Bond) → Inside n bs → Inside n (unused n bs)
unfolding unused
inside-unused n bs i = all-remove_all (λ b. (b.lo < b.hi) × (b.hi < n)) (trees (forest_of n bs) 0) (renumbered n bs) (inside-renumbered n bs i)

-- the bonds as the reader completes them
unfoldable pub completed : ℕ → List Bond → List Bond
completed n bs = done_all (closing_bonds n (unused n bs)) (opening_bonds n (unused n bs)) (forest_of n bs) 0

-- THE STATEMENT: reading what was written of a sound molecule
pub record Returned (n : ℕ) (pay : ℕ → ℕ) (bs : List Bond) : Type 0 where
  pub hub : ℕ
  pub bridges : List Closure
  pub reads : run_tokens (write n pay bs) start_tokens ≡ st (map pay (pre (forest_of n bs))) (completed n bs) hub n bridges []
  pub closed : shut bridges ≡ true
  pub bonds : (p : Bond → Bool) → count p (completed n bs) ≡ count p (renumbered n bs)

pub round_trip : (n : ℕ) (pay : ℕ → ℕ) (bs : List Bond) → Inside n bs → Returned n pay bs
unfolding write completed unused
round_trip n pay bs i =
    let F = forest_of n bs in
    let N = unused n bs in
    let c = closing_bonds n N in
    let o = opening_bonds n N in
    let k = back-of n N (inside-unused n bs i) in
    let s : size F ≡ n = sym (size-length F) ∙ (renumbering n bs i).long in
    let e : size (relabel pay F) ≡ n = size-relabel pay F ∙ s in
    let r = readback N c o k (relabel pay F) (rw e (all_map (λ b. (b.lo < b.hi) × (b.hi < n)) (λ b. b.hi < n) (λ b h. h.1) N (inside-unused n bs i))) in
    record {
      hub = r.hub;
      bridges = r.bridges;
      reads = r.reads ∙ (λ i. st (pre-relabel pay F i) (done_all-relabel c o pay F 0 i) r.hub (e i) r.bridges []);
      closed = r.closed;
      bonds = λ p. ap (count p) (sym (done_all-relabel c o pay F 0)) ∙ r.bonds p ∙ ap (λ (l : List Bond). count p l + count p N) (trees-relabel pay F 0)
          ∙ sym (remove-all (trees F 0) (renumbered n bs) (within n bs i) p);
    }
