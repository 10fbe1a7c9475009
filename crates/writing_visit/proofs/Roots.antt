-- The whole walk: one root after the other. Assumes nothing.
use Prim.Native.Nat.{ℕ, zero, suc, ◌+◌, ◌-◌, ◌<◌, ◌≤◌}
use native.Mathlib.Omega.{arith}
use native.Mathlib.Numerals.{add-one}
use mathlib.Core.Path.{◌≡◌, refl, sym, ap, ◌∙◌, subst}
use mathlib.Core.Bool.{Bool, true, false, cond}
use mathlib.Core.List.{List, [], ◌∷◌, ◌++◌, append_assoc, append-nil}
use lib.ListN.{length, get_or, set, replicate, length-append, length-set}
use lib.Seq.{get_or-set_same, get_or-set_other}
use Rattle.loops.proofs.Loops.{repeated-at}
use Rattle.loops.specs.Loop.{pick, up_to}
use Rattle.writing_walk.specs.Token.{Bond}
use Rattle.writing_walk.specs.Emit.{Forest, leaf, node, size, pre}
use Rattle.writing_walk.specs.Walk.{Neighbour, neighbour, member, neighbours, visit_in_turn, walk, roots, forest_of, place}
use Rattle.writing_walk.specs.Flat.{kinds, ups}
use Rattle.writing_walk.proofs.Count.{none}
use Rattle.writing_walk.proofs.Walk.{times, same-fuel, absent}
use Rattle.writing_walk.proofs.Trip.{size-length, renumbering}
use Rattle.writing_visit.specs.Visit.{lay, grow, walk_mark, BondsFit, Room, Visited, WalkArrays, walk_arrays, Laid, Grown, root_forest, Walked}
use Rattle.writing_visit.proofs.Ways.{bonds-inside}
use Rattle.writing_visit.proofs.Seen.{unmarked, marked, room-left, stands-add, stands-cast}
use Rattle.writing_visit.proofs.Laws.{lay-append, length-kinds, length-ups, laid_leaf, laid-node, seen-less}

record Split (R F G : Forest) : Type 0 where
  pub order : pre F ≡ pre R ++ pre G
  pub kind : kinds F ≡ kinds R ++ kinds G
  pub up : (c : ℕ) → ups F 0 c ≡ ups R 0 c ++ ups G 0 (c + size R)

module _ (bonds : ℕ → Bond) (n m : ℕ) where
  -- the roots that are left, after the first of them
  abbrev left : ℕ → List ℕ → Forest
  left a s = visit_in_turn (walk (up_to bonds 0 m) n) (roots a (n - a)) s

  -- the loop stands before the root a
  pub record Sofar (x : WalkArrays) (a : ℕ) (y : WalkArrays) : Type 0 where
    pub within : a ≤ n
    pub seen : List ℕ
    pub stands : Visited n seen y.count y.number
    pub whole : seen ++ pre (left a seen) ≡ pre (forest_of n (up_to bonds 0 m))
    pub order : lay y.count (pre (left a seen)) y.order ≡ lay 0 (pre (forest_of n (up_to bonds 0 m))) x.order
    pub kind : lay y.count (kinds (left a seen)) y.kind ≡ lay 0 (kinds (forest_of n (up_to bonds 0 m))) x.kind
    pub up : lay y.count (ups (left a seen) 0 y.count) y.up ≡ lay 0 (ups (forest_of n (up_to bonds 0 m)) 0 0) x.up

module _ {bonds : ℕ → Bond} {n m : ℕ} (fit : BondsFit bonds n m) where
  abbrev bs : List Bond
  bs = up_to bonds 0 m

  root-seen : (a : ℕ) (s : List ℕ) → member a s ≡ true → root_forest bonds n m a s ≡ leaf
  unfolding root_forest
  root-seen a s e = rw e

  root-fresh : (a : ℕ) (s : List ℕ) → member a s ≡ false → root_forest bonds n m a s ≡ node a 0 (grow bonds n m a 0 (s ++ (a ∷ []))) leaf
  unfolding root_forest grow
  root-fresh a s e =
      let z : m - 0 ≡ m = omega arith in
      let g : walk bs n a (s ++ (a ∷ [])) ≡ visit_in_turn (walk bs n) (neighbours a (up_to bonds 0 (m - 0))) (s ++ (a ∷ [])) = same-fuel n bs (bonds-inside fit) a (s ++ (a ∷ [])) ∙ simp z in
      rw (e, g)

  module _ (o v u q : List ℕ) (count a : ℕ) (h : a < n) where
    pub root-skip : (get_or v a 0 ≡ 0 → ⊥) → Grown n 0 (root_forest bonds n m a) (walk_arrays o v u q count) (walk_arrays o v u q count)
    root-skip k = record { fewer = omega arith; laid = λ s st. subst (λ (F : Forest). Laid n 0 F s (walk_arrays o v u q count) (walk_arrays o v u q count)) (sym (root-seen a s (marked s a (λ i. k (st.marks a h ∙ i))))) (laid_leaf n 0 s (walk_arrays o v u q count) st) }

    pub root-full : get_or v a 0 ≡ 0 → n ≤ count → Grown n 0 (root_forest bonds n m a) (walk_arrays o v u q count) (walk_arrays o v u q count)
    root-full e l = record { fewer = omega arith; laid = λ s st. absurd (let g = room-left n a count s v st h (unmarked s a (sym (st.marks a h) ∙ e)) in omega arith) }

    pub root-new : (o2 v2 u2 q2 : List ℕ) (z : WalkArrays) → get_or v a 0 ≡ 0 → n ≤ length v
        → o2 ≡ set o count a → v2 ≡ set v a (count + 1) → u2 ≡ set u count 0 → q2 ≡ set q count 0
        → Grown n (suc count) (grow bonds n m a 0) (walk_arrays o2 v2 u2 q2 (count + 1)) z
        → Grown n 0 (root_forest bonds n m a) (walk_arrays o v u q count) z
    root-new o2 v2 u2 q2 z e long eo ev eu eq one =
        let d = seen-less v v2 a count (omega arith) e ev in
        let f = one.fewer in
        record { fewer = omega arith; laid = laid }
      where
        laid : (s : List ℕ) → Visited n s count v → Laid n 0 (root_forest bonds n m a s) s (walk_arrays o v u q count) z
        laid s st =
            let m0 = unmarked s a (sym (st.marks a h) ∙ e) in
            let st1 : Visited n (s ++ (a ∷ [])) (count + 1) v2 = rw ev (stands-add n a count s v st h long m0) in
            let f = grow bonds n m a 0 (s ++ (a ∷ [])) in
            let l1 = one.laid (s ++ (a ∷ [])) st1 in
            let l1' : Laid n (suc count) f (s ++ (a ∷ [])) (walk_arrays (set o count a) v2 (set u count 0) (set q count 0) (count + 1)) z =
            subst (λ (x : WalkArrays). Laid n (suc count) f (s ++ (a ∷ [])) x z) (λ i. walk_arrays (eo i) v2 (eu i) (eq i) (count + 1)) l1 in
            subst (λ (F : Forest). Laid n 0 F s (walk_arrays o v u q count) z) (sym (root-fresh a s m0))
            (laid-node n 0 a 0 f leaf s o v v2 u q count z z st.long l1' (laid_leaf n 0 ((s ++ (a ∷ [])) ++ pre f) z l1.stands))

  split : (a : ℕ) (s : List ℕ) (cs : List Neighbour) → Split (root_forest bonds n m a s) (visit_in_turn (walk bs n) (neighbour a 0 ∷ cs) s) (visit_in_turn (walk bs n) cs (s ++ pre (root_forest bonds n m a s)))
  unfolding root_forest
  split a s cs = go (member a s)
    where
      f : Forest
      f = walk bs n a (s ++ (a ∷ []))

      go : (t : Bool) → Split (cond t leaf (node a 0 f leaf))
          (cond t (visit_in_turn (walk bs n) cs s) (node a 0 f (visit_in_turn (walk bs n) cs ((s ++ (a ∷ [])) ++ pre f)))) (visit_in_turn (walk bs n) cs (s ++ pre (cond t leaf (node a 0 f leaf))))
      go true =
          let e : s ++ [] ≡ s = append-nil s in
          record { order = rw e; kind = rw e; up = λ c. (let z : c + 0 ≡ c = omega arith in rw (e, z)) }
      go false =
          let e : s ++ (a ∷ (pre f ++ [])) ≡ (s ++ (a ∷ [])) ++ pre f = ap (λ (l : List ℕ). s ++ (a ∷ l)) (append-nil (pre f)) ∙ sym (append_assoc s (a ∷ []) (pre f)) in
          record {
            order = rw (e, append-nil (pre f));
            kind = rw (e, append-nil (kinds f));
            up = λ c. (let z : c + suc (size f + 0) ≡ suc c + size f = omega arith in rw (e, z, append-nil (ups f (suc c) (suc c))));
          }

  pub sofar-start : (o v u k : List ℕ) → v ≡ replicate (length v) 0 → Sofar bonds n m (walk_arrays o v u k 0) 0 (walk_arrays o v u k 0)
  unfolding forest_of walk_mark
  sofar-start o v u k e =
      let z : n - 0 ≡ n = omega arith in
      record {
        within = omega arith;
        seen = [];
        stands = record { once = λ w. omega arith; inside = none; long = refl; marks = λ a h. ap (λ (l : List ℕ). get_or l a 0) e ∙ repeated-at (length v) a 0 };
        whole = rw z;
        order = rw z;
        kind = rw z;
        up = rw z;
      }

  pub sofar-step : (x y z : WalkArrays) (a : ℕ) → a < n → Sofar bonds n m x a y → Grown n 0 (root_forest bonds n m a) y z → Sofar bonds n m x (a + 1) z
  sofar-step x y z a h b g =
      let s = b.seen in
      let R = root_forest bonds n m a s in
      let l = g.laid s b.stands in
      let d : n - a ≡ suc (n - (a + 1)) = omega arith in
      let q : roots a (n - a) ≡ neighbour a 0 ∷ roots (a + 1) (n - (a + 1)) = rw (d, add-one a) in
      let w = split a s (roots (a + 1) (n - (a + 1))) in
      let G = left bonds n m (a + 1) (s ++ pre R) in
      let F = visit_in_turn (walk bs n) (neighbour a 0 ∷ roots (a + 1) (n - (a + 1))) s in
      let e : left bonds n m a s ≡ F = ap (λ (cs : List Neighbour). visit_in_turn (walk bs n) cs s) q in
      let c : z.count ≡ y.count + size R = sym l.stands.long ∙ length-append s (pre R) ∙ omega (arith, b.stands.long, size-length R) in
      record {
        within = omega arith;
        seen = s ++ pre R;
        stands = l.stands;
        whole = append_assoc s (pre R) (pre G) ∙ ap (λ (p : List ℕ). s ++ p) (sym w.order ∙ ap pre (sym e)) ∙ b.whole;
        order = (λ i. lay ((c ∙ ap (λ (j : ℕ). y.count + j) (sym (size-length R))) i) (pre G) (l.order i)) ∙ sym (lay-append (pre R) (pre G) y.count y.order) ∙ ap (λ (p : List ℕ). lay y.count p y.order) (sym w.order ∙ ap pre (sym e)) ∙ b.order;
        kind = (λ i. lay ((c ∙ ap (λ (j : ℕ). y.count + j) (sym (length-kinds R))) i) (kinds G) (l.kind i)) ∙ sym (lay-append (kinds R) (kinds G) y.count y.kind) ∙ ap (λ (p : List ℕ). lay y.count p y.kind) (sym w.kind ∙ ap kinds (sym e)) ∙ b.kind;
        up = (λ i. lay (c i) (ups G 0 (c i)) (l.up i))
            ∙ ap (λ (j : ℕ). lay j (ups G 0 (y.count + size R)) (lay y.count (ups R 0 y.count) y.up)) (ap (λ (j : ℕ). y.count + j) (sym (length-ups R 0 y.count)))
            ∙ sym (lay-append (ups R 0 y.count) (ups G 0 (y.count + size R)) y.count y.up)
            ∙ ap (λ (p : List ℕ). lay y.count p y.up) (sym (w.up y.count) ∙ ap (λ (T : Forest). ups T 0 y.count) (sym e)) ∙ b.up;
      }

-- what was laid stands there
lay-length : (l : List ℕ) (k : ℕ) (t : List ℕ) → length (lay k l t) ≡ length t
unfolding lay
lay-length [] k t = refl
lay-length (x ∷ l) k t = lay-length l (suc k) (set t k x) ∙ length-set t k x

lay-below : (l : List ℕ) (k : ℕ) (t : List ℕ) (x : ℕ) → x < k → get_or (lay k l t) x 0 ≡ get_or t x 0
unfolding lay
lay-below [] k t x h = refl
lay-below (y ∷ l) k t x h = lay-below l (suc k) (set t k y) x (omega arith) ∙ get_or-set_other t k x y 0 (omega arith)

lay_at : (l : List ℕ) (k : ℕ) (t : List ℕ) (x : ℕ) → x < length l → k + length l ≤ length t → get_or (lay k l t) (k + x) 0 ≡ get_or l x 0
unfolding lay
lay_at [] k t x h g = absurd (omega arith)
lay_at (y ∷ l) k t zero h g =
    let z : k + 0 ≡ k = omega arith in
    let i : k < length t = omega arith in
    rw z (lay-below l (suc k) (set t k y) k (omega arith) ∙ get_or-set_same t k y 0 i)
lay_at (y ∷ l) k t (suc x) h g =
    let z : k + suc x ≡ suc k + x = omega arith in
    rw z (lay_at l (suc k) (set t k y) x (omega arith) (simp length-set (omega arith)))

pub laid-at : (l t : List ℕ) (x : ℕ) → x < length l → length l ≤ length t → get_or (lay 0 l t) x 0 ≡ get_or l x 0
laid-at l t x h g = let z : 0 + x ≡ x = omega arith in rw z at (lay_at l 0 t x h (omega arith))

module _ {bonds : ℕ → Bond} {n m : ℕ} (fit : BondsFit bonds n m) where
  pub sofar-end : (o v u k : List ℕ) (y : WalkArrays) (a : ℕ) → n ≤ a → Room n o v u k → Sofar bonds n m (walk_arrays o v u k 0) a y → Walked (up_to bonds 0 m) n y.order y.number y.up y.kind
  unfolding walk_mark lay
  sofar-end o v u k y a h room b =
      let bs = up_to bonds 0 m in
      let F = forest_of n bs in
      let z : n - a ≡ 0 = omega arith in
      let r = renumbering n bs (bonds-inside fit) in
      let long : length (pre F) ≡ n = r.long in
      let size : size F ≡ n = sym (size-length F) ∙ long in
      let f = fit.atoms_few in
      let ro = room.order in
      let ru = room.up in
      let rk = room.kind in
      let e : visit_in_turn (walk bs n) (roots a (n - a)) b.seen ≡ leaf = rw z in
      let eo : y.order ≡ lay 0 (pre F) o = ap (λ (T : Forest). lay y.count (pre T) y.order) (sym e) ∙ b.order in
      let ek : y.kind ≡ lay 0 (kinds F) k = ap (λ (T : Forest). lay y.count (kinds T) y.kind) (sym e) ∙ b.kind in
      let eu : y.up ≡ lay 0 (ups F 0 0) u = ap (λ (T : Forest). lay y.count (ups T 0 y.count) y.up) (sym e) ∙ b.up in
      let es : b.seen ≡ pre F = sym (append-nil b.seen) ∙ ap (λ (T : Forest). b.seen ++ pre T) (sym e) ∙ b.whole in
      let st : Visited n (pre F) y.count y.number = stands-cast n y.count b.seen (pre F) y.number es b.stands in
      record {
        order = λ x i. ap (λ (l : List ℕ). get_or l x 0) eo ∙ laid-at (pre F) o x (omega arith) (omega arith);
        number = λ x i. st.marks x i ∙ there x (pre F) (r.every x i);
        up = λ x i. (let w = length-ups F 0 0 in ap (λ (l : List ℕ). get_or l x 0) eu ∙ laid-at (ups F 0 0) u x (omega arith) (omega arith));
        kind = λ x i. (let w = length-kinds F in ap (λ (l : List ℕ). get_or l x 0) ek ∙ laid-at (kinds F) k x (omega arith) (omega arith));
      }
    where
      there : (x : ℕ) (l : List ℕ) → 0 < times x l → pick (member x l) (suc (place l x)) 0 ≡ suc (place l x)
      there x l h = go (member x l) refl
        where
          go : (t : Bool) → member x l ≡ t → pick t (suc (place l x)) 0 ≡ suc (place l x)
          go true e = refl
          go false e = absurd (let w = absent x l e in omega arith)
