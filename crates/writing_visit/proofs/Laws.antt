-- One law for each way through the walk's code. Assumes nothing.
use Prim.Native.Nat.{ℕ, suc, ◌+◌, ◌*◌, ◌-◌, ◌<◌, ◌≤◌}
use native.Mathlib.Omega.{arith}
use native.Mathlib.Numerals.{add-one}
use native.Mathlib.Nat.{suc-mul, mul-le-mul_right}
use mathlib.Core.Path.{◌≡◌, refl, sym, ap, ◌∙◌, subst}
use mathlib.Core.Bool.{true, false}
use mathlib.Core.List.{List, [], ◌∷◌, ◌++◌, append_assoc, append-nil}
use lib.ListN.{length, get_or, set, length-append, length-set}
use Rattle.table.specs.Limits.{max_atoms}
use Rattle.writing_walk.specs.Token.{Bond}
use Rattle.writing_walk.specs.Emit.{Forest, leaf, node, size, pre}
use Rattle.writing_walk.specs.Walk.{member}
use Rattle.writing_walk.specs.Flat.{kinds, ups}
use Rattle.writing_walk.proofs.Trip.{size-length}
use Rattle.writing_visit.specs.Visit.{touching, first_from, other_end, kind_from, lay, grow, unseen, BondsFit, Room, Kept, Visited, WalkArrays, walk_arrays, Laid, Grown, walk_mark}
use Rattle.writing_visit.proofs.Ways.{Next, next-is, other-below, grow-same, grow-end, grow-skip, grow-visit}
use Rattle.writing_visit.proofs.Seen.{unmarked, marked, room-left, stands-add, stands-cast, unseen-set}

pub lay-append : (a b : List ℕ) (k : ℕ) (t : List ℕ) → lay k (a ++ b) t ≡ lay (k + length a) b (lay k a t)
unfolding lay
lay-append [] b k t = let e : k + 0 ≡ k = omega arith in rw e
lay-append (x ∷ a) b k t = let e : k + suc (length a) ≡ suc k + length a = omega arith in rw e (lay-append a b (suc k) (set t k x))

pub length-kinds : (f : Forest) → length (kinds f) ≡ size f
length-kinds leaf = refl
length-kinds (node w k f g) = ap suc (length-append (kinds f) (kinds g) ∙ (λ i. length-kinds f i + length-kinds g i))

pub length-ups : (f : Forest) (p n : ℕ) → length (ups f p n) ≡ size f
length-ups leaf p n = refl
length-ups (node w k f g) p n = ap suc (length-append (ups f (suc n) (suc n)) (ups g p (suc n + size f)) ∙ (λ i. length-ups f (suc n) (suc n) i + length-ups g p (suc n + size f) i))

-- nothing is added
pub laid_leaf : (n p : ℕ) (s : List ℕ) (x : WalkArrays) → Visited n s x.count x.number → Laid n p leaf s x x
unfolding lay
laid_leaf n p s x st = record { order = refl; kind = refl; up = refl; stands = stands-cast n x.count s (s ++ []) x.number (sym (append-nil s)) st }

-- an atom, what is below it, and what comes after it
pub laid-node : (n p w k : ℕ) (f g : Forest) (s : List ℕ) (o v v1 u q : List ℕ) (c : ℕ) (y z : WalkArrays) → length s ≡ c
    → Laid n (suc c) f (s ++ (w ∷ [])) (walk_arrays (set o c w) v1 (set u c p) (set q c k) (c + 1)) y
    → Laid n p g ((s ++ (w ∷ [])) ++ pre f) y z
    → Laid n p (node w k f g) s (walk_arrays o v u q c) z
unfolding lay
laid-node n p w k f g s o v v1 u q c y z e a b =
    let d : c + 1 ≡ suc c = add-one c in
    let l : y.count ≡ suc c + size f = sym a.stands.long ∙ length-append (s ++ (w ∷ [])) (pre f) ∙ omega (arith, length-append s (w ∷ []), size-length f) in
    let l1 : suc c + length (pre f) ≡ suc c + size f = ap (λ (x : ℕ). suc c + x) (size-length f) in
    let l2 : suc c + length (kinds f) ≡ suc c + size f = ap (λ (x : ℕ). suc c + x) (length-kinds f) in
    let l3 : suc c + length (ups f (suc c) (suc c)) ≡ suc c + size f = ap (λ (x : ℕ). suc c + x) (length-ups f (suc c) (suc c)) in
    record {
      order = b.order ∙ (λ i. lay (l i) (pre g) ((a.order ∙ ap (λ (j : ℕ). lay j (pre f) (set o c w)) d) i)) ∙ sym (lay-append (pre f) (pre g) (suc c) (set o c w) ∙ ap (λ (j : ℕ). lay j (pre g) (lay (suc c) (pre f) (set o c w))) l1);
      kind = b.kind ∙ (λ i. lay (l i) (kinds g) ((a.kind ∙ ap (λ (j : ℕ). lay j (kinds f) (set q c k)) d) i)) ∙ sym (lay-append (kinds f) (kinds g) (suc c) (set q c k) ∙ ap (λ (j : ℕ). lay j (kinds g) (lay (suc c) (kinds f) (set q c k))) l2);
      up = b.up ∙ (λ i. lay (l i) (ups g p (l i)) ((a.up ∙ ap (λ (j : ℕ). lay j (ups f (suc c) j) (set u c p)) d) i))
          ∙ sym (lay-append (ups f (suc c) (suc c)) (ups g p (suc c + size f)) (suc c) (set u c p) ∙ ap (λ (j : ℕ). lay j (ups g p (suc c + size f)) (lay (suc c) (ups f (suc c) (suc c)) (set u c p))) l3);
      stands = stands-cast n z.count (((s ++ (w ∷ [])) ++ pre f) ++ pre g) (s ++ (w ∷ (pre f ++ pre g))) z.number (append_assoc (s ++ (w ∷ [])) (pre f) (pre g) ∙ append_assoc s (w ∷ []) (pre f ++ pre g)) b.stands;
    }

pub seen-less : (v1 v2 : List ℕ) (a count : ℕ) → a < length v1 → get_or v1 a 0 ≡ 0 → v2 ≡ set v1 a (count + 1) → unseen v2 < unseen v1
seen-less v1 v2 a count h e q =
    let d = unseen-set v1 a count h e in
    let x : unseen v2 ≡ unseen (set v1 a (suc count)) = ap unseen (q ∙ ap (set v1 a) (add-one count)) in
    omega arith

laid-cast : (n p : ℕ) (F G : Forest) (s : List ℕ) (x y : WalkArrays) → F ≡ G → Laid n p G s x y → Laid n p F s x y
laid-cast n p F G s x y e l = subst (λ (H : Forest). Laid n p H s x y) (sym e) l

module _ {bonds : ℕ → Bond} {n m : ℕ} (fit : BondsFit bonds n m) where
  -- from the next bond at an atom, so from any number before it
  pub grown-from : (p v from r : ℕ) (x y : WalkArrays) → from ≤ m → r ≡ first_from (touching bonds v) from (m - from) → Grown n p (grow bonds n m v r) x y → Grown n p (grow bonds n m v from) x y
  grown-from p v from r x y h e g =
      record {
        fewer = g.fewer;
        laid = λ s st. laid-cast n p (grow bonds n m v from s) (grow bonds n m v r s) s x y (grow-same fit v from r (next-is bonds v m from r h e) s) (g.laid s st);
      }

  -- no bond is left
  pub at-end : (p v b : ℕ) (x : WalkArrays) → m ≤ b → Grown n p (grow bonds n m v b) x x
  at-end p v b x h = record { fewer = omega arith; laid = λ s st. laid-cast n p (grow bonds n m v b s) leaf s x x (grow-end fit v b h s) (laid_leaf n p s x st) }

  -- b is a bond at v, and r the next one
  module _ (v b r : ℕ) (h : b < m) (here : touching bonds v b ≡ true) (found : r ≡ first_from (touching bonds v) (suc b) (m - suc b)) where
    next : Next bonds v m (suc b) r
    next = next-is bonds v m (suc b) r (omega arith) found

    abbrev w : ℕ
    w = other_end bonds b v

    -- the other end was visited
    pub at_seen : (p : ℕ) (x y : WalkArrays) (z : ℕ) → z ≡ other_end bonds b v → (get_or x.number z 0 ≡ 0 → ⊥) → Grown n p (grow bonds n m v r) x y → Grown n p (grow bonds n m v b) x y
    at_seen p x y z e k g =
        record {
          fewer = g.fewer;
          laid = λ s st.
              let i = other-below fit v b h in
              let q : walk_mark s w ≡ get_or x.number z 0 = sym (ap (λ (j : ℕ). get_or x.number j 0) e ∙ st.marks w i) in
              laid-cast n p (grow bonds n m v b s) (grow bonds n m v r s) s x y (grow-skip fit v b r h here next s (marked s w (λ j. k (sym q ∙ j)))) (g.laid s st);
        }

    module _ (hub : ℕ) (o v1 u q : List ℕ) (count a : ℕ) (e : a ≡ other_end bonds b v) (fresh : get_or v1 a 0 ≡ 0) where
      below : a < n
      below = rw e (other-below fit v b h)

      apart : (s : List ℕ) → Visited n s count v1 → member a s ≡ false
      apart s st = unmarked s a (sym (st.marks a below) ∙ fresh)

      -- all n atoms were visited: this cannot be
      pub at-full : n ≤ count → Grown n (suc hub) (grow bonds n m v b) (walk_arrays o v1 u q count) (walk_arrays o v1 u q count)
      at-full l = record { fewer = omega arith; laid = λ s st. absurd (let g = room-left n a count s v1 st below (apart s st) in omega arith) }

      -- the other end is visited, then the rest
      pub at_new : (k : ℕ) (o2 v2 u2 q2 : List ℕ) (y z : WalkArrays) → k ≡ kind_from bonds b v → n ≤ length v1
          → o2 ≡ set o count a → v2 ≡ set v1 a (count + 1) → u2 ≡ set u count (hub + 1) → q2 ≡ set q count k
          → Grown n (suc count) (grow bonds n m a 0) (walk_arrays o2 v2 u2 q2 (count + 1)) y → Grown n (suc hub) (grow bonds n m v r) y z
          → Grown n (suc hub) (grow bonds n m v b) (walk_arrays o v1 u q count) z
      at_new k o2 v2 u2 q2 y z ek long eo ev eu eq one two =
          let i = below in
          let d = seen-less v1 v2 a count (omega arith) fresh ev in
          let f1 = one.fewer in
          let f2 = two.fewer in
          record { fewer = omega arith; laid = laid }
        where
          laid : (s : List ℕ) → Visited n s count v1 → Laid n (suc hub) (grow bonds n m v b s) s (walk_arrays o v1 u q count) z
          laid s st =
              let m0 = apart s st in
              let i = below in
              let st1 : Visited n (s ++ (a ∷ [])) (count + 1) v2 = rw ev (stands-add n a count s v1 st i long m0) in
              let f = grow bonds n m a 0 (s ++ (a ∷ [])) in
              let l1 = one.laid (s ++ (a ∷ [])) st1 in
              let l1' : Laid n (suc count) f (s ++ (a ∷ [])) (walk_arrays (set o count a) v2 (set u count (suc hub)) (set q count k) (count + 1)) y =
              subst (λ (x : WalkArrays). Laid n (suc count) f (s ++ (a ∷ [])) x y) (λ i. walk_arrays (eo i) v2 ((eu ∙ ap (set u count) (add-one hub)) i) (eq i) (count + 1)) l1 in
              let l2 = two.laid ((s ++ (a ∷ [])) ++ pre f) l1.stands in
              let g = grow bonds n m v r ((s ++ (a ∷ [])) ++ pre f) in
              let m1 : member (other_end bonds b v) s ≡ false = subst (λ (x : ℕ). member x s ≡ false) e m0 in
              let same : grow bonds n m v b s ≡ node a k f g =
              grow-visit fit v b r h here next s m1 f (λ i. grow bonds n m (e i) 0 (s ++ (e i ∷ [])))
              ∙ (λ i. node (sym e i) (sym ek i) f (grow bonds n m v r ((s ++ (sym e i ∷ [])) ++ pre f))) in
              laid-cast n (suc hub) (grow bonds n m v b s) (node a k f g) s (walk_arrays o v1 u q count) z same
              (laid-node n (suc hub) a k f g s o v1 v2 u q count y z st.long l1' l2)

-- the walk that began at the atom v of walk number hub stands at the bond c of the atom a, of walk number top: what is left from there is what is left from the start
pub record Left (bonds : ℕ → Bond) (n m v hub from a top c : ℕ) (x y : WalkArrays) : Type 0 where
  pub within : c ≤ m
  pub here : c < m → touching bonds a c ≡ true
  pub few : top < max_atoms
  pub fewer : unseen y.number ≤ unseen x.number
  pub rest : (z : WalkArrays) → Grown n (suc top) (grow bonds n m a c) y z → Grown n (suc hub) (grow bonds n m v from) x z

pub left-start : (bonds : ℕ → Bond) (n m v hub from : ℕ) (x : WalkArrays) → from ≤ m → hub < max_atoms → (from < m → touching bonds v from ≡ true) → Left bonds n m v hub from v hub from x x
left-start bonds n m v hub from x h f here = record { within = h; here = here; few = f; fewer = omega arith; rest = λ z g. g }

module _ {bonds : ℕ → Bond} {n m : ℕ} (fit : BondsFit bonds n m) {v hub from d top b : ℕ} where
  pub left_end : (x y : WalkArrays) → Left bonds n m v hub from d top b x y → m ≤ b → Grown n (suc hub) (grow bonds n m v from) x y
  left_end x y l h = l.rest y (at-end fit (suc top) d b y h)

  module _ (r : ℕ) (h : b < m) (found : r ≡ first_from (touching bonds d) (suc b) (m - suc b)) where
    pub left-seen : (x y : WalkArrays) → Left bonds n m v hub from d top b x y → (z : ℕ) → z ≡ other_end bonds b d → (get_or y.number z 0 ≡ 0 → ⊥) → Left bonds n m v hub from d top r x y
    left-seen x y l z e k =
        let after = next-is bonds d m (suc b) r (omega arith) found in
        record { within = after.high; here = after.here; few = l.few; fewer = l.fewer; rest = λ t g. l.rest t (at_seen fit d b r h (l.here h) found (suc top) y t z e k g) }

    module _ (x : WalkArrays) (o v1 u q : List ℕ) (count : ℕ) (l : Left bonds n m v hub from d top b x (walk_arrays o v1 u q count))
        (a k hd : ℕ) (e : a ≡ other_end bonds b d) (fresh : get_or v1 a 0 ≡ 0) (ek : k ≡ kind_from bonds b d) (ed : hd ≡ first_from (touching bonds a) 0 (m - 0)) (long : n ≤ length v1)
        (o2 v2 u2 q2 : List ℕ) (eo : o2 ≡ set o count a) (ev : v2 ≡ set v1 a (count + 1)) (eu : u2 ≡ set u count (top + 1)) (eq : q2 ≡ set q count k) where
      new-less : unseen v2 < unseen v1
      new-less = let i : a < n = rw e (other-below fit d b h) in seen-less v1 v2 a count (omega arith) fresh ev

      -- the other end is visited, then the rest at this atom
      pub left-new : (y : WalkArrays) → Grown n (suc count) (grow bonds n m a hd) (walk_arrays o2 v2 u2 q2 (count + 1)) y → Left bonds n m v hub from d top r x y
      left-new y one =
          let s = new-less in
          let f1 = one.fewer in
          let f2 = l.fewer in
          let after = next-is bonds d m (suc b) r (omega arith) found in
          record {
            within = after.high;
            here = after.here;
            few = l.few;
            fewer = omega arith;
            rest = λ z g. l.rest z (at_new fit d b r h (l.here h) found top o v1 u q count a e fresh k o2 v2 u2 q2 y z ek long eo ev eu eq (grown-from fit (suc count) a 0 hd (walk_arrays o2 v2 u2 q2 (count + 1)) y (omega arith) ed one) g);
          }

      -- behind the last bond the walk goes on from the other end
      pub left-last : m ≤ r → count < max_atoms → Left bonds n m v hub from a count hd x (walk_arrays o2 v2 u2 q2 (count + 1))
      left-last last few =
          let s = new-less in
          let f2 = l.fewer in
          let after = next-is bonds a m 0 hd (omega arith) ed in
          record {
            within = after.high;
            here = after.here;
            few = few;
            fewer = omega arith;
            rest = λ z g. l.rest z (at_new fit d b r h (l.here h) found top o v1 u q count a e fresh k o2 v2 u2 q2 z z ek long eo ev eu eq (grown-from fit (suc count) a 0 hd (walk_arrays o2 v2 u2 q2 (count + 1)) z (omega arith) ed g) (at-end fit (suc top) d r z last));
          }

  pub left-full : (x : WalkArrays) (o v1 u q : List ℕ) (count : ℕ) → Left bonds n m v hub from d top b x (walk_arrays o v1 u q count) → b < m
      → (a : ℕ) → a ≡ other_end bonds b d → get_or v1 a 0 ≡ 0 → n ≤ count → Grown n (suc hub) (grow bonds n m v from) x (walk_arrays o v1 u q count)
  left-full x o v1 u q count l h a e fresh full =
      l.rest (walk_arrays o v1 u q count) (at-full fit d b (first_from (touching bonds d) (suc b) (m - suc b)) h (l.here h) refl top o v1 u q count a e fresh full)

-- the measure of the loop: the atoms not yet visited, and then the bonds that are left
abbrev pub ahead : List ℕ → ℕ → ℕ → ℕ
ahead number m b = unseen number * suc m + (m - b)

pub ahead-less : (u w m b c : ℕ) → w ≤ u → b < c → b < m → w * suc m + (m - c) < u * suc m + (m - b)
ahead-less u w m b c h l k = let z : w * suc m ≤ u * suc m = mul-le-mul_right (suc m) h in omega arith

pub ahead-drop : (u w m b c : ℕ) → w < u → w * suc m + (m - c) < u * suc m + (m - b)
ahead-drop u w m b c h = let z : suc w * suc m ≤ u * suc m = mul-le-mul_right (suc m) h in omega (arith, suc-mul w (suc m))

pub kept_same : {o v u k : List ℕ} → Kept o v u k o v u k
kept_same = record { order = refl; number = refl; up = refl; kind = refl }

module _ {o v u k o2 v2 u2 k2 o3 v3 u3 k3 : List ℕ} (a : Kept o v u k o2 v2 u2 k2) where
  pub kept_then : Kept o2 v2 u2 k2 o3 v3 u3 k3 → Kept o v u k o3 v3 u3 k3
  kept_then b = record { order = b.order ∙ a.order; number = b.number ∙ a.number; up = b.up ∙ a.up; kind = b.kind ∙ a.kind }

  pub kept_set : (count w p q : ℕ) → o3 ≡ set o2 count w → v3 ≡ set v2 w (count + 1) → u3 ≡ set u2 count p → k3 ≡ set k2 count q → Kept o v u k o3 v3 u3 k3
  kept_set count w p q eo ev eu ek =
      record {
        order = ap length eo ∙ length-set o2 count w ∙ a.order;
        number = ap length ev ∙ length-set v2 w (count + 1) ∙ a.number;
        up = ap length eu ∙ length-set u2 count p ∙ a.up;
        kind = ap length ek ∙ length-set k2 count q ∙ a.kind;
      }

pub room-kept : {n : ℕ} {o v u k o2 v2 u2 k2 : List ℕ} → Room n o v u k → Kept o v u k o2 v2 u2 k2 → Room n o2 v2 u2 k2
room-kept r e =
    record {
      order = omega (arith, r.order, e.order);
      number = omega (arith, r.number, e.number);
      up = omega (arith, r.up, e.up);
      kind = omega (arith, r.kind, e.kind);
    }
