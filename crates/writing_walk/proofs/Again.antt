-- The walk over the bonds that were read finds the same forest, numbered in preorder. Assumes nothing.
use mathlib.Core.Path.{◌≡◌, refl, sym, ap, ◌∙◌, subst}
use mathlib.Core.Bool.{Bool, true, false, ◌&&◌, ◌||◌, cond}
use mathlib.Core.List.{List, [], ◌∷◌, ◌++◌, map, append_assoc}
use Prim.Native.Nat.{ℕ, zero, suc, ◌+◌, ◌≤◌, ◌<◌}
use native.Mathlib.Omega.{arith}
use lib.Dec.{eqb, ltb}
use lib.ListN.{length, length-append}
use borrow.Author.Tests.{ne_eqb, eqb-true, eqb-false, ltb-true, ltb-false}
use Rattle.kinds.specs.Kind.{turned}
use Rattle.writing_walk.specs.Token.{Bond, bond, eq_bond}
use Rattle.writing_walk.specs.Emit.{Forest, leaf, node, size, pre, done, done_all}
use Rattle.writing_walk.specs.Walk.{Neighbour, neighbour, member, neighbours, roots, place, renumber}
use Rattle.writing_walk.proofs.Count.{bit, count, count-append, eqb_same, bond-same, All, none, more, all_map, all_append}
use Rattle.writing_walk.proofs.Read.{Back, closes_at, ClosesAt}
use Rattle.writing_walk.proofs.Walk.{times, range, Once, Dfs, end, skip, visit, Inside}
use Rattle.writing_walk.proofs.Trip.{dfs-all, placed, place-inj, size-length, all-has}

-- the forest with its preorder numbers for atoms
abbrev pub number : Forest → ℕ → Forest
number leaf n = leaf
number (node w k f g) n = node n k (number f (suc n)) (number g (suc n + size f))

pub range-append : (a d e : ℕ) → range a d ++ range (a + d) e ≡ range a (d + e)
range-append a zero e = let p : a + 0 ≡ a = omega arith in let q : 0 + e ≡ e = omega arith in rw (p, q)
range-append a (suc d) e =
    let p : a + suc d ≡ suc a + d = omega arith in
    let q : suc d + e ≡ suc (d + e) = omega arith in
    rw (p, q) (ap (λ (l : List ℕ). a ∷ l) (range-append (suc a) d e))

pub size_number : (f : Forest) (n : ℕ) → size (number f n) ≡ size f
size_number leaf n = refl
size_number (node w k f g) n = λ i. suc (size_number f (suc n) i + size_number g (suc n + size f) i)

pub pre-number : (f : Forest) (n : ℕ) → pre (number f n) ≡ range n (size f)
pre-number leaf n = refl
pre-number (node w k f g) n = ap (λ (l : List ℕ). n ∷ l) ((λ i. pre-number f (suc n) i ++ pre-number g (suc n + size f) i) ∙ range-append (suc n) (size f) (size g))

next-range : (n : ℕ) → range 0 n ++ (n ∷ []) ≡ range 0 (suc n)
next-range n = let p : 0 + n ≡ n = omega arith in let q : n + 1 ≡ suc n = omega arith in (rw p at (range-append 0 n 1)) ∙ ap (range 0) q

seen-range : (n : ℕ) (f : Forest) → (range 0 n ++ (n ∷ [])) ++ pre (number f (suc n)) ≡ range 0 (suc n + size f)
seen-range n f = (λ i. next-range n i ++ pre-number f (suc n) i) ∙ (let p : 0 + suc n ≡ suc n = omega arith in rw p at (range-append 0 (suc n) (size f)))

in-range : (w a d : ℕ) → a ≤ w → w < a + d → member w (range a d) ≡ true
in-range w a zero h g = absurd (omega arith)
in-range w a (suc d) h g = go (eqb w a) refl (in-range w (suc a) d)
  where
    go : (y : Bool) → eqb w a ≡ y → (suc a ≤ w → w < suc a + d → member w (range (suc a) d) ≡ true) → (y || member w (range (suc a) d)) ≡ true
    go true y f = refl
    go false y f = let z = eqb-false w a y in f (omega arith) (omega arith)

out-range : (w a d : ℕ) → a + d ≤ w → member w (range a d) ≡ false
out-range w a zero h = refl
out-range w a (suc d) h = rw (ne_eqb w a (omega arith)) (out-range w (suc a) d (omega arith))

ways-append : (v : ℕ) (a b : List Bond) → neighbours v (a ++ b) ≡ neighbours v a ++ neighbours v b
ways-append v [] b = refl
ways-append v (x ∷ a) b = go (eqb x.lo v) (eqb x.hi v) (ways-append v a b)
  where
    go : (p q : Bool) → neighbours v (a ++ b) ≡ neighbours v a ++ neighbours v b
        → cond p (neighbour x.hi x.kind ∷ neighbours v (a ++ b)) (cond q (neighbour x.lo (turned x.kind) ∷ neighbours v (a ++ b)) (neighbours v (a ++ b)))
        ≡ cond p (neighbour x.hi x.kind ∷ neighbours v a) (cond q (neighbour x.lo (turned x.kind) ∷ neighbours v a) (neighbours v a)) ++ neighbours v b
    go true q h = ap (λ (l : List Neighbour). neighbour x.hi x.kind ∷ l) h
    go false true h = ap (λ (l : List Neighbour). neighbour x.lo (turned x.kind) ∷ l) h
    go false false h = h

pub all_both : {A : Type 0} (P Q R : A → Type 0) → ((b : A) → P b → Q b → R b) → (l : List A) → All P l → All Q l → All R l
all_both P Q R f [] none none = none
all_both P Q R f (b ∷ l) (more h a) (more g c) = more (f b h g) (all_both P Q R f l a c)

-- bonds below m are skipped when the atoms below m are seen
skips : (bs : List Bond) (v m : ℕ) (l : List Bond) → Inside m l → (cs : List Neighbour) (g : Forest) → Dfs bs cs (range 0 m) g → Dfs bs (neighbours v l ++ cs) (range 0 m) g
skips bs v m [] none cs g d = d
skips bs v m (b ∷ l) (more h a) cs g d = go (eqb b.lo v) (eqb b.hi v) (skips bs v m l a cs g d)
  where
    go : (p q : Bool) → Dfs bs (neighbours v l ++ cs) (range 0 m) g → Dfs bs (cond p (neighbour b.hi b.kind ∷ neighbours v l) (cond q (neighbour b.lo (turned b.kind) ∷ neighbours v l) (neighbours v l)) ++ cs) (range 0 m) g
    go true q r = skip (in-range b.hi 0 m (omega arith) (omega arith)) r
    go false true r = skip (in-range b.lo 0 m (omega arith) (omega arith)) r
    go false false r = r

-- no bond of the list has an end in the block from a to b
abbrev Clear : ℕ → ℕ → List Bond → Type 0
Clear a b l = All (λ x. (b ≤ x.hi) × (a ≤ x.lo → x.lo < b → ⊥)) l

clear-ways : (v b : ℕ) → v < b → (l : List Bond) → Clear v b l → neighbours v l ≡ []
clear-ways v b h [] none = refl
clear-ways v b h (x ∷ l) (more g a) =
    rw (ne_eqb x.lo v (λ e. g.1 (omega arith) (omega arith)), ne_eqb x.hi v (omega arith)) (clear-ways v b h l a)

-- depth first: a further bond goes to an atom below the one where it opens
pub data Deep (N : List Bond) : Forest → ℕ → Type 0 where
  dleaf : {n : ℕ} → Deep N leaf n
  dnode : {w k n : ℕ} {f g : Forest} → All (λ b. b.lo ≡ n → b.hi < suc n + size f) N → Deep N f (suc n) → Deep N g (suc n + size f) → Deep N (node w k f g) n

-- the roots have the kind 0
pub data Plain : Forest → Type 0 where
  pleaf : Plain leaf
  pnode : {w : ℕ} {f g : Forest} → Plain g → Plain (node w 0 f g)

abbrev Block : ℕ → ℕ → Bond → Type 0
Block a b x = a ≤ x.lo → x.lo < b → x.hi < b

block_one : (n e : ℕ) (b : Bond) → (b.lo ≡ n → b.hi < e) → Block (suc n) e b → Block n e b
block_one n e b f g h l = go (eqb b.lo n) refl
  where
    go : (x : Bool) → eqb b.lo n ≡ x → b.hi < e
    go true q = f (eqb-true b.lo n q)
    go false q = let z = eqb-false b.lo n q in g (omega arith) l

block-two : (a m e : ℕ) → m ≤ e → (b : Bond) → Block a m b → Block m e b → Block a e b
block-two a m e h b f g p l = go (ltb b.lo m) refl
  where
    go : (x : Bool) → ltb b.lo m ≡ x → b.hi < e
    go true q = let z = f p (ltb-true b.lo m q) in omega arith
    go false q = g (ltb-false b.lo m q) l

empty_block : (n : ℕ) (N : List Bond) → All (Block n n) N
empty_block n [] = none
empty_block n (b ∷ N) = more {b = b} (λ h l. absurd (omega arith)) (empty_block n N)

node_block : (N : List Bond) (n : ℕ) (f : Forest) → All (λ b. b.lo ≡ n → b.hi < suc n + size f) N → All (Block (suc n) (suc n + size f)) N → All (Block n (suc n + size f)) N
node_block N n f a b = all_both (λ b. b.lo ≡ n → b.hi < suc n + size f) (Block (suc n) (suc n + size f)) (Block n (suc n + size f)) (λ b. block_one n (suc n + size f) b) N a b

block : (N : List Bond) (F : Forest) (n : ℕ) → Deep N F n → All (Block n (n + size F)) N
block N leaf n dleaf = let e : n + 0 ≡ n = omega arith in rw e (empty_block n N)
block N (node w k f g) n (dnode a d e) =
    let q : n + suc (size f + size g) ≡ suc n + size f + size g = omega arith in
    rw q (all_both (Block n (suc n + size f)) (Block (suc n + size f) (suc n + size f + size g)) (Block n (suc n + size f + size g))
    (block-two n (suc n + size f) (suc n + size f + size g) (omega arith)) N
    (node_block N n f a (block N f (suc n) d)) (block N g (suc n + size f) e))

pub inside-mono : (n m : ℕ) → n ≤ m → (l : List Bond) → Inside n l → Inside m l
inside-mono n m h l a = all_map (λ b. (b.lo < b.hi) × (b.hi < n)) (λ b. (b.lo < b.hi) × (b.hi < m)) (λ b g. (g.0, omega arith)) l a

clear-mono : (a a' b b' : ℕ) → a ≤ a' → b' ≤ b → (l : List Bond) → Clear a b l → Clear a' b' l
clear-mono a a' b b' h g l c = all_map (λ x. (b ≤ x.hi) × (a ≤ x.lo → x.lo < b → ⊥)) (λ x. (b' ≤ x.hi) × (a' ≤ x.lo → x.lo < b' → ⊥)) (λ x r. (omega arith, λ p q. r.1 (omega arith) (omega arith))) l c

pub and-less : (p q : Bond → Bool) (l : List Bond) → count (λ b. p b && q b) l ≤ count p l
and-less p q [] = omega arith
and-less p q (b ∷ l) = omega (arith, go (p b) (q b), and-less p q l)
  where
    go : (x y : Bool) → bit (x && y) ≤ bit x
    go true true = omega arith
    go true false = omega arith
    go false y = omega arith

pub self_in : (l : List Bond) → All (λ b. 0 < count (eq_bond b) l) l
self_in [] = none
self_in (x ∷ l) = more {b = x} (omega (arith, ap bit (bond-same x))) (all_map (λ b. 0 < count (eq_bond b) l) (λ b. 0 < count (eq_bond b) (x ∷ l)) (λ b h. omega arith) l (self_in l))

module _ (N : List Bond) (c o : ℕ → List Bond) (k : Back N c o) where
  pub from_all : (P : Bond → Type 0) → All P N → (n : ℕ) → All P (c n)
  from_all P a n = all_map (λ b. 0 < count (eq_bond b) (c n)) P
      (λ b h. all-has P N a b (let p = k.closes n (eq_bond b) in let q = and-less (eq_bond b) (λ x. eqb x.hi n) N in omega arith)) (c n) (self_in (c n))

  pub closes-inside : (n : ℕ) → Inside (suc n) (c n)
  closes-inside n = all_map (ClosesAt n) (λ b. (b.lo < b.hi) × (b.hi < suc n)) (λ b h. let p = h.below in let q = h.here in (omega arith, omega arith)) (c n) (closes_at N c o k n)

  closes-clear : (n a b : ℕ) → b ≤ n → All (Block a b) N → Clear a b (c n)
  closes-clear n a b h w = all_both (ClosesAt n) (Block a b) (λ x. (b ≤ x.hi) × (a ≤ x.lo → x.lo < b → ⊥))
      (λ x p q. let r = p.here in (omega arith, λ u v. let z = q u v in omega arith)) (c n) (closes_at N c o k n) (from_all (Block a b) w n)

  done-clear : (G : Forest) (v m a b : ℕ) → b ≤ m → (a ≤ v → v < b → ⊥) → All (Block a b) N → Clear a b (done c o G v m)
  done-clear leaf v m a b h g w = none
  done-clear (node u j f q) v m a b h g w =
      more {b = bond v m j} (h, g) (all_append (λ x. (b ≤ x.hi) × (a ≤ x.lo → x.lo < b → ⊥)) (c m) (done c o f m (suc m) ++ done c o q v (suc m + size f)) (closes-clear m a b h w)
      (all_append (λ x. (b ≤ x.hi) × (a ≤ x.lo → x.lo < b → ⊥)) (done c o f m (suc m)) (done c o q v (suc m + size f))
      (done-clear f m (suc m) a b (omega arith) (λ r s. omega arith) w) (done-clear q v (suc m + size f) a b (omega arith) g w)))

  done_all-clear : (G : Forest) (m a b : ℕ) → b ≤ m → All (Block a b) N → Clear a b (done_all c o G m)
  done_all-clear leaf m a b h w = none
  done_all-clear (node u j f q) m a b h w =
      all_append (λ x. (b ≤ x.hi) × (a ≤ x.lo → x.lo < b → ⊥)) (c m) (done c o f m (suc m) ++ done_all c o q (suc m + size f)) (closes-clear m a b h w)
      (all_append (λ x. (b ≤ x.hi) × (a ≤ x.lo → x.lo < b → ⊥)) (done c o f m (suc m)) (done_all c o q (suc m + size f))
      (done-clear f m (suc m) a b (omega arith) (λ r s. omega arith) w) (done_all-clear q (suc m + size f) a b (omega arith) w))

  pub inside-append : (n : ℕ) (l m : List Bond) → Inside n l → Inside n m → Inside n (l ++ m)
  inside-append n l m = all_append (λ b. (b.lo < b.hi) × (b.hi < n)) l m

  pub done-inside : (G : Forest) (v m : ℕ) → v < m → Inside (m + size G) (done c o G v m)
  done-inside leaf v m h = none
  done-inside (node u j f g) v m h =
      let e : m + suc (size f + size g) ≡ suc m + size f + size g = omega arith in
      rw e (more {b = bond v m j} (h, omega arith) (inside-append (suc m + size f + size g) (c m) (done c o f m (suc m) ++ done c o g v (suc m + size f)) (inside-mono (suc m) (suc m + size f + size g) (omega arith) (c m) (closes-inside m))
      (inside-append (suc m + size f + size g) (done c o f m (suc m)) (done c o g v (suc m + size f)) (inside-mono (suc m + size f) (suc m + size f + size g) (omega arith) (done c o f m (suc m)) (done-inside f m (suc m) (omega arith))) (done-inside g v (suc m + size f) (omega arith)))))

  kids-dfs : (B : List Bond) (F : Forest) (v n : ℕ) → v < n → Deep N F n → (A rest : List Bond) → B ≡ A ++ (done c o F v n ++ rest) → Inside n A → Clear v (n + size F) rest
      → Dfs B (neighbours v (done c o F v n ++ rest)) (range 0 n) (number F n)
  kids-dfs B leaf v n h dleaf A rest e i l = rw (clear-ways v (n + 0) (omega arith) rest l) end
  kids-dfs B (node w j f g) v n h (dnode a d d2) A rest e i l =
      let n2 = suc n + size f in
      let R1 = done c o g v n2 ++ rest in
      let A1 = A ++ (bond v n j ∷ c n) in
      let A2 = A ++ (bond v n j ∷ (c n ++ done c o f n (suc n))) in
      let K = c n ++ done c o f n (suc n) in
      let e1 : B ≡ A1 ++ (done c o f n (suc n) ++ R1) = e ∙ simp append_assoc in
      let e2 : B ≡ A2 ++ (done c o g v n2 ++ rest) = e ∙ simp append_assoc in
      let e3 : (c n ++ (done c o f n (suc n) ++ done c o g v n2)) ++ rest ≡ K ++ (done c o g v n2 ++ rest) = simp append_assoc in
      let i1 : Inside (suc n) A1 = inside-append (suc n) A (bond v n j ∷ c n) (inside-mono n (suc n) (omega arith) A i) (more {b = bond v n j} (h, omega arith) (closes-inside n)) in
      let i_k : Inside n2 K = inside-append n2 (c n) (done c o f n (suc n)) (inside-mono (suc n) n2 (omega arith) (c n) (closes-inside n)) (done-inside f n (suc n) (omega arith)) in
      let i2 : Inside n2 A2 = inside-append n2 A (bond v n j ∷ K) (inside-mono n n2 (omega arith) A i) (more {b = bond v n j} (h, omega arith) i_k) in
      let bl : All (Block n n2) N = node_block N n f a (block N f (suc n) d) in
      let q : n + suc (size f + size g) ≡ n2 + size g = omega arith in
      let l1 : Clear n n2 R1 = all_append (λ x. (n2 ≤ x.hi) × (n ≤ x.lo → x.lo < n2 → ⊥)) (done c o g v n2) rest (done-clear g v n2 n n2 (omega arith) (λ r s. omega arith) bl) (clear-mono v n (n + suc (size f + size g)) n2 (omega arith) (omega arith) rest l) in
      let l2 : Clear v (n2 + size g) rest = clear-mono v v (n + suc (size f + size g)) (n2 + size g) (omega arith) (omega arith) rest l in
      let D1 : Dfs B (neighbours n B) (range 0 n ++ (n ∷ [])) (number f (suc n)) =
      subst (λ (s : List ℕ). Dfs B (neighbours n B) s (number f (suc n))) (sym (next-range n))
      (subst (λ (cs : List Neighbour). Dfs B cs (range 0 (suc n)) (number f (suc n))) (sym (ap (neighbours n) e1 ∙ ways-append n A1 (done c o f n (suc n) ++ R1)))
      (skips B n (suc n) A1 i1 (neighbours n (done c o f n (suc n) ++ R1)) (number f (suc n)) (kids-dfs B f n (suc n) (omega arith) d A1 R1 e1 i1 l1))) in
      let D2 : Dfs B (neighbours v ((c n ++ (done c o f n (suc n) ++ done c o g v n2)) ++ rest)) ((range 0 n ++ (n ∷ [])) ++ pre (number f (suc n))) (number g n2) =
      subst (λ (s : List ℕ). Dfs B (neighbours v ((c n ++ (done c o f n (suc n) ++ done c o g v n2)) ++ rest)) s (number g n2)) (sym (seen-range n f))
      (subst (λ (cs : List Neighbour). Dfs B cs (range 0 n2) (number g n2)) (sym (ap (neighbours v) e3 ∙ ways-append v K (done c o g v n2 ++ rest)))
      (skips B v n2 K i_k (neighbours v (done c o g v n2 ++ rest)) (number g n2) (kids-dfs B g v n2 (omega arith) d2 A2 rest e2 i2 l2))) in
      rw (eqb_same v) (visit {x = neighbour n j} (out-range n 0 n (omega arith)) D1 D2)

  pub roots-dfs : (B : List Bond) (r a : ℕ) (F : Forest) (m : ℕ) → Deep N F m → Plain F → a ≤ m → a + r ≡ m + size F → (A : List Bond) → B ≡ A ++ done_all c o F m → Inside m A → Dfs B (roots a r) (range 0 m) (number F m)
  roots-dfs B zero a leaf m d pl h q A e i = end
  roots-dfs B zero a (node w j f g) m d pl h q A e i = absurd (omega arith)
  roots-dfs B (suc r) a leaf m d pl h q A e i = skip (in-range a 0 m (omega arith) (omega arith)) (roots-dfs B r (suc a) leaf m d pl (omega arith) (omega arith) A e i)
  roots-dfs B (suc r) a (node w j f g) m (dnode x d d2) (pnode pl) h q A e i =
      let n2 = suc m + size f in
      let R1 = done_all c o g n2 in
      let A1 = A ++ c m in
      let A2 = A ++ (c m ++ done c o f m (suc m)) in
      let e1 : B ≡ A1 ++ (done c o f m (suc m) ++ R1) = e ∙ simp append_assoc in
      let e2 : B ≡ A2 ++ done_all c o g n2 = e ∙ simp append_assoc in
      let i1 : Inside (suc m) A1 = inside-append (suc m) A (c m) (inside-mono m (suc m) (omega arith) A i) (closes-inside m) in
      let i_k : Inside n2 (c m ++ done c o f m (suc m)) = inside-append n2 (c m) (done c o f m (suc m)) (inside-mono (suc m) n2 (omega arith) (c m) (closes-inside m)) (done-inside f m (suc m) (omega arith)) in
      let i2 : Inside n2 A2 = inside-append n2 A (c m ++ done c o f m (suc m)) (inside-mono m n2 (omega arith) A i) i_k in
      let bl : All (Block m n2) N = node_block N m f x (block N f (suc m) d) in
      let l1 : Clear m n2 R1 = done_all-clear g n2 m n2 (omega arith) bl in
      let D1 : Dfs B (neighbours m B) (range 0 m ++ (m ∷ [])) (number f (suc m)) =
      subst (λ (s : List ℕ). Dfs B (neighbours m B) s (number f (suc m))) (sym (next-range m))
      (subst (λ (cs : List Neighbour). Dfs B cs (range 0 (suc m)) (number f (suc m))) (sym (ap (neighbours m) e1 ∙ ways-append m A1 (done c o f m (suc m) ++ R1)))
      (skips B m (suc m) A1 i1 (neighbours m (done c o f m (suc m) ++ R1)) (number f (suc m)) (kids-dfs B f m (suc m) (omega arith) d A1 R1 e1 i1 l1))) in
      go (ltb a m) refl D1
      (λ (z : a < m). roots-dfs B r (suc a) (node w 0 f g) m (dnode x d d2) (pnode pl) (omega arith) (omega arith) A e i)
      (λ (z : a ≡ m). subst (λ (s : List ℕ). Dfs B (roots (suc a) r) s (number g n2)) (sym (seen-range m f)) (roots-dfs B r (suc a) g n2 d2 pl (omega arith) (omega arith) A2 e2 i2))
    where
      go : (y : Bool) → ltb a m ≡ y → Dfs B (neighbours m B) (range 0 m ++ (m ∷ [])) (number f (suc m)) → (a < m → Dfs B (roots (suc a) r) (range 0 m) (number (node w 0 f g) m))
          → (a ≡ m → Dfs B (roots (suc a) r) ((range 0 m ++ (m ∷ [])) ++ pre (number f (suc m))) (number g (suc m + size f)))
          → Dfs B (neighbour a 0 ∷ roots (suc a) r) (range 0 m) (number (node w 0 f g) m)
      go true y D1 s t = let z = ltb-true a m y in skip (in-range a 0 m (omega arith) (omega arith)) (s z)
      go false y D1 s t =
          let u = ltb-false a m y in
          let z : a ≡ m = omega arith in
          subst (λ (b : ℕ). Dfs B (neighbour b 0 ∷ roots (suc a) r) (range 0 m) (number (node w 0 f g) m)) (sym z) (visit {x = neighbour m 0} (out-range m 0 m (omega arith)) D1 (t z))

-- the walk is depth first
beside : (n : ℕ) (P : ℕ → Type 0) (w : ℕ) (bs : List Bond) → Inside n bs → All (λ x. P x.to) (neighbours w bs) → All (λ b. (b.lo ≡ w → P b.hi) × (b.hi ≡ w → P b.lo)) bs
beside n P w [] i a = none
beside n P w (b ∷ bs) (more h i) a = go (eqb b.lo w) refl (eqb b.hi w) refl a (beside n P w bs i)
  where
    go : (x : Bool) → eqb b.lo w ≡ x → (y : Bool) → eqb b.hi w ≡ y
        → All (λ x. P x.to) (cond x (neighbour b.hi b.kind ∷ neighbours w bs) (cond y (neighbour b.lo (turned b.kind) ∷ neighbours w bs) (neighbours w bs)))
        → (All (λ x. P x.to) (neighbours w bs) → All (λ b. (b.lo ≡ w → P b.hi) × (b.hi ≡ w → P b.lo)) bs)
        → All (λ b. (b.lo ≡ w → P b.hi) × (b.hi ≡ w → P b.lo)) (b ∷ bs)
    go true p y q (more r a) f = more {b = b} ((λ e. r), (λ e. absurd (let z = eqb-true b.lo w p in omega arith))) (f a)
    go false p true q (more r a) f = more {b = b} ((λ e. absurd (eqb-false b.lo w p e)), (λ e. r)) (f a)
    go false p false q a f = more {b = b} ((λ e. absurd (eqb-false b.lo w p e)), (λ e. absurd (eqb-false b.hi w q e))) (f a)

place-front : (v : ℕ) (a b : List ℕ) → 0 < times v a → place (a ++ b) v < length a
place-front v [] b h = absurd (omega arith)
place-front v (x ∷ a) b h = go (eqb v x) h (place-front v a b)
  where
    go : (e : Bool) → 0 < bit e + times v a → (0 < times v a → place (a ++ b) v < length a) → cond e 0 (suc (place (a ++ b) v)) < suc (length a)
    go true h f = omega arith
    go false h f = omega (arith, f (omega arith))

module _ (n : ℕ) (order : List ℕ) (bs : List Bond) (i : Inside n bs) (o : Once order) (all : (v : ℕ) → v < n → 0 < times v order) where
  -- a bond from the atom w goes to an atom that is placed before e
  deep_one : (w m e : ℕ) → 0 < times w order → place order w ≡ m → (b : Bond) → (b.lo < b.hi) × (b.hi < n)
      → (b.lo ≡ w → place order b.hi < e) × (b.hi ≡ w → place order b.lo < e) → (renumber order b).lo ≡ m → (renumber order b).hi < e
  deep_one w m e t p b h f = go (ltb (place order b.lo) (place order b.hi))
    where
      go : (x : Bool) → (cond x (bond (place order b.lo) (place order b.hi) b.kind) (bond (place order b.hi) (place order b.lo) (turned b.kind))).lo ≡ m
          → (cond x (bond (place order b.lo) (place order b.hi) b.kind) (bond (place order b.hi) (place order b.lo) (turned b.kind))).hi < e
      go true q = f.0 (place-inj b.lo w order (all b.lo (omega arith)) t (q ∙ sym p))
      go false q = f.1 (place-inj b.hi w order (all b.hi (omega arith)) t (q ∙ sym p))

  all_of_map : (P : Bond → Type 0) (l : List Bond) → All (λ b. P (renumber order b)) l → All P (map (renumber order) l)
  all_of_map P [] none = none
  all_of_map P (b ∷ l) (more h a) = more h (all_of_map P l a)

  pub dfs-deep : {cs : List Neighbour} {s : List ℕ} {F : Forest} → Dfs bs cs s F → (z : List ℕ) → order ≡ s ++ (pre F ++ z) → (m : ℕ) → length s ≡ m → Deep (map (renumber order) bs) F m
  dfs-deep end z e m l = dleaf
  dfs-deep (skip _ d) z e m l = dfs-deep d z e m l
  dfs-deep (visit {x} {cs} {s} {f = F} {g = G} _ d c) z e m l =
      let s2 = (s ++ (x.to ∷ [])) ++ pre F in
      let e1 : order ≡ (s ++ (x.to ∷ [])) ++ (pre F ++ (pre G ++ z)) = e ∙ simp append_assoc in
      let e2 : order ≡ s2 ++ (pre G ++ z) = e ∙ simp append_assoc in
      let q : place order x.to ≡ m = placed order o x.to s ((pre F ++ pre G) ++ z) e ∙ l in
      let l1 : length (s ++ (x.to ∷ [])) ≡ suc m = length-append s (x.to ∷ []) ∙ omega arith in
      let l2 : length s2 ≡ suc m + size F = length-append (s ++ (x.to ∷ [])) (pre F) ∙ (λ i. l1 i + size-length F i) in
      let t : 0 < times x.to order = omega (arith, ap (times x.to) e, count-append (eqb x.to) s (x.to ∷ ((pre F ++ pre G) ++ z)), ap bit (eqb_same x.to)) in
      let near : All (λ y. place order y.to < suc m + size F) (neighbours x.to bs) =
      all_map (λ y. 0 < times y.to s2) (λ y. place order y.to < suc m + size F)
      (λ y h. let u = place-front y.to s2 (pre G ++ z) h in let u2 : place order y.to ≡ place (s2 ++ (pre G ++ z)) y.to = ap (λ (k : List ℕ). place k y.to) e2 in omega arith) (neighbours x.to bs) (dfs-all bs d) in
      dnode (all_of_map (λ b. b.lo ≡ m → b.hi < suc m + size F) bs
      (all_both (λ b. (b.lo < b.hi) × (b.hi < n)) (λ b. (b.lo ≡ x.to → place order b.hi < suc m + size F) × (b.hi ≡ x.to → place order b.lo < suc m + size F)) (λ b. (renumber order b).lo ≡ m → (renumber order b).hi < suc m + size F)
      (deep_one x.to m (suc m + size F) t q) bs i (beside n (λ v. place order v < suc m + size F) x.to bs i near)))
      (dfs-deep d (pre G ++ z) e1 (suc m) l1) (dfs-deep c z e2 (suc m + size F) l2)

-- a part of the further bonds
pub deep-part : (N M : List Bond) → ((P : Bond → Type 0) → All P M → All P N) → (F : Forest) (n : ℕ) → Deep M F n → Deep N F n
deep-part N M f leaf n dleaf = dleaf
deep-part N M f (node w k g h) n (dnode a d e) = dnode (f (λ b. b.lo ≡ n → b.hi < suc n + size g) a) (deep-part N M f g (suc n) d) (deep-part N M f h (suc n + size g) e)

pub dfs-plain : (bs : List Bond) {cs : List Neighbour} {s : List ℕ} {F : Forest} → Dfs bs cs s F → All (λ x. x.kind ≡ 0) cs → Plain F
dfs-plain bs end none = pleaf
dfs-plain bs (skip m d) (more h a) = dfs-plain bs d a
dfs-plain bs (visit {x} {f} {g} m d e) (more h a) = subst (λ (k : ℕ). Plain (node x.to k f g)) (sym h) (pnode (dfs-plain bs e a))

pub roots-plain : (a d : ℕ) → All (λ x. x.kind ≡ 0) (roots a d)
roots-plain a zero = none
roots-plain a (suc d) = more {b = neighbour a 0} refl (roots-plain (suc a) d)
