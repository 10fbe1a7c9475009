-- Reading what was emitted, with the count of ring tokens. Assumes nothing.
use mathlib.Core.Path.{◌≡◌, refl, sym, ap, ◌∙◌}
use mathlib.Core.Bool.{Bool, true, false, cond}
use mathlib.Core.List.{List, [], ◌∷◌, ◌++◌, map, append_assoc, append-nil}
use Prim.Native.Nat.{ℕ, suc, ◌+◌, ◌<◌}
use native.Mathlib.Omega.{arith}
use lib.ListN.{length, get_or, length-append}
use borrow.Author.Tests.{lt-ltb}
use Rattle.kinds.specs.Kind.{meet}
use Rattle.writing_walk.specs.Token.{Bond, bond, bond_between, eq_bond, Tok, apart, along, ring, branch, back}
use Rattle.writing_walk.specs.Reading.{Closure, vacant, at, closure_at, St, st, bridge, step_token, run_tokens}
use Rattle.writing_walk.specs.Emit.{Forest, leaf, node, size, pre, Slot, free, held, lowest, insert, find, release, close_all, close_toks, open_all, open_toks, wrap, rings, ring_toks, after, toks, text, done, done_all, hub_after, end_hub, last_hub, tree, trees}
use Rattle.writing_walk.specs.Keyed.{Keys, keys, child_keys, keys_between, set_stamp, Keyed, keyed, state_of, stamp_for, bridge_keys, keys_made, step_keyed, run_keyed, rings_before}
use Rattle.writing_walk.proofs.Count.{bit, count, All, none, more, bond-eq}
use Rattle.writing_walk.proofs.Read.{Back, Inv, Within, ClosesAt, hooks, open_of, find-hook, step-close, hang-at, lowest-vacant, bridged, first-in, close-within, closes_at, opens_at, closes-within, inv-rings, inv-after}
use Rattle.writing_walk.proofs.Bridges.{all_left, all_right}

-- THE PROJECTION: counting ring tokens changes nothing of the reading
pub keyed-state : (ts : List Tok) (x : Keyed) → state_of (run_keyed ts x) ≡ run_tokens ts (state_of x)
keyed-state [] x = refl
keyed-state (t ∷ ts) (keyed s z ms ks) = keyed-state ts (step_keyed t (keyed s z ms ks))

-- as many keys as bonds
abbrev pub bonds_of : St → List Bond
bonds_of (st xs bs h n hs stk) = bs

grown : {A B : Type 0} (l : List A) (m : List B) (a : A) (b : B) → length l ≡ length m → length (l ++ (a ∷ [])) ≡ length (m ++ (b ∷ []))
grown l m a b e = length-append l (a ∷ []) ∙ omega arith ∙ sym (length-append m (b ∷ []))

same-long : {A : Type 0} (l : List A) (m : List Bond) → length l ≡ length m → length (l ++ []) ≡ length m
same-long l m e = ap length (append-nil l) ∙ e

pub step-long : (t : Tok) (s : St) (z : ℕ) (ts : List ℕ) (ks : List Keys) → length ks ≡ length (bonds_of s) → length (ks ++ keys_made t s z ts) ≡ length (bonds_of (step_token t s))
step-long (apart w) (st xs bs h n hs stk) z ts ks e = same-long ks bs e
step-long (along k w) (st xs bs h n hs stk) z ts ks e = grown ks bs child_keys (bond h n k) e
step-long (ring k m) (st xs bs h n hs stk) z ts ks e = go (closure_at hs m)
  where
    go : (x : Closure) → length (ks ++ bridge_keys x h (get_or ts m 0) (suc z)) ≡ length (bonds_of (bridge x k m xs bs h n hs stk))
    go vacant = same-long ks bs e
    go (at u j) = grown ks bs (keys_between u h (get_or ts m 0) (suc z)) (bond_between u h (meet j k)) e
step-long branch (st xs bs h n hs stk) z ts ks e = same-long ks bs e
step-long back (st xs bs h n hs []) z ts ks e = same-long ks bs e
step-long back (st xs bs h n hs (g ∷ stk)) z ts ks e = same-long ks bs e

pub keyed-append : (a b : List Tok) (x : Keyed) → run_keyed (a ++ b) x ≡ run_keyed b (run_keyed a x)
keyed-append [] b x = refl
keyed-append (t ∷ a) b x = keyed-append a b (step_keyed t x)

pub map-append : {A B : Type 0} (f : A → B) (l m : List A) → map f (l ++ m) ≡ map f l ++ map f m
map-append f [] m = refl
map-append {B = B} f (x ∷ l) m = ap (λ (r : List B). f x ∷ r) (map-append f l m)

-- P holds of the bonds of the list and of the numbers z, z + 1, .. in turn
abbrev pub From : (Bond → ℕ → Type 0) → ℕ → List Bond → Type 0
From P z [] = Unit {0}
From P z (b ∷ l) = P b z × From P (suc z) l

-- T: the time at which a bond opens; the stamps of the writer's places
module _ (T : Bond → ℕ) where
  abbrev pub stamp : Slot → ℕ
  stamp free = 0
  stamp (held b) = T b

  abbrev pub stamps : List Slot → List ℕ
  stamps t = map stamp t

  lowest-stamp : (b : Bond) (t : List Slot) → set_stamp (stamps t) (lowest t) (T b) ≡ stamps (insert b t)
  lowest-stamp b [] = refl
  lowest-stamp b (free ∷ t) = refl
  lowest-stamp b (held x ∷ t) = ap (λ (l : List ℕ). T x ∷ l) (lowest-stamp b t)

  find-stamp : (b : Bond) (t : List Slot) → 0 < count (eq_bond b) (open_of t) → get_or (stamps t) (find b t) 0 ≡ T b
  find-stamp b [] h = absurd (omega arith)
  find-stamp b (free ∷ t) h = find-stamp b t h
  find-stamp b (held x ∷ t) h = go (eq_bond b x) refl h (find-stamp b t)
    where
      go : (e : Bool) → eq_bond b x ≡ e → 0 < bit e + count (eq_bond b) (open_of t) → (0 < count (eq_bond b) (open_of t) → get_or (stamps t) (find b t) 0 ≡ T b)
          → get_or (stamps (held x ∷ t)) (cond e 0 (suc (find b t))) 0 ≡ T b
      go true e h f = ap T (sym (bond-eq b x e))
      go false e h f = f (omega arith)

  find-unstamp : (b : Bond) (t : List Slot) → 0 < count (eq_bond b) (open_of t) → set_stamp (stamps t) (find b t) 0 ≡ stamps (release b t)
  find-unstamp b [] h = absurd (omega arith)
  find-unstamp b (free ∷ t) h = ap (λ (l : List ℕ). 0 ∷ l) (find-unstamp b t h)
  find-unstamp b (held x ∷ t) h = go (eq_bond b x) h (find-unstamp b t)
    where
      go : (e : Bool) → 0 < bit e + count (eq_bond b) (open_of t) → (0 < count (eq_bond b) (open_of t) → set_stamp (stamps t) (find b t) 0 ≡ stamps (release b t))
          → set_stamp (stamps (held x ∷ t)) (cond e 0 (suc (find b t))) 0 ≡ stamps (cond e (free ∷ t) (held x ∷ release b t))
      go true h f = refl
      go false h f = ap (λ (l : List ℕ). T x ∷ l) (f (omega arith))

  -- the bonds of the list open at the times z + 1, z + 2, ..
  abbrev pub OpenFrom : ℕ → List Bond → Type 0
  OpenFrom = From (λ b z. T b ≡ suc z)

  keyed-opens : (n m : ℕ) (xs stk : List ℕ) (o : List Bond) (t : List Slot) (bs : List Bond) (z : ℕ) (ks : List Keys) → All (λ b. b.lo ≡ n) o → OpenFrom z o
      → run_keyed (open_toks o t) (keyed (st xs bs n m (hooks t) stk) z (stamps t) ks) ≡ keyed (st xs bs n m (hooks (open_all o t)) stk) (z + length o) (stamps (open_all o t)) ks
  keyed-opens n m xs stk [] t bs z ks a e = let q : z ≡ z + 0 = omega arith in ap (λ (y : ℕ). keyed (st xs bs n m (hooks t) stk) y (stamps t) ks) q
  keyed-opens n m xs stk (b ∷ o) t bs z ks (more h a) (e, f) =
      let v = lowest-vacant t in
      let q : suc z + length o ≡ z + suc (length o) = omega arith in
      let s : step_token (ring b.kind (lowest t)) (st xs bs n m (hooks t) stk) ≡ st xs bs n m (hooks (insert b t)) stk =
      bridged (closure_at (hooks t) (lowest t)) vacant v b.kind (lowest t) xs bs n m (hooks t) stk ∙ (λ i. st xs bs n m (hang-at n b t h i) stk) in
      let p : set_stamp (stamps t) (lowest t) (stamp_for (closure_at (hooks t) (lowest t)) z) ≡ stamps (insert b t) =
      ap (λ (x : Closure). set_stamp (stamps t) (lowest t) (stamp_for x z)) v ∙ ap (set_stamp (stamps t) (lowest t)) (sym e) ∙ lowest-stamp b t in
      let r : ks ++ bridge_keys (closure_at (hooks t) (lowest t)) n (get_or (stamps t) (lowest t) 0) (suc z) ≡ ks =
      ap (λ (x : Closure). ks ++ bridge_keys x n (get_or (stamps t) (lowest t) 0) (suc z)) v ∙ append-nil ks in
      ap (run_keyed (open_toks o (insert b t))) (λ i. keyed (s i) (suc z) (p i) (r i))
      ∙ keyed-opens n m xs stk o (insert b t) bs (suc z) ks a f
      ∙ ap (λ (y : ℕ). keyed (st xs bs n m (hooks (open_all o (insert b t))) stk) y (stamps (open_all o (insert b t))) ks) q

  -- K: the keys of a bond; the bonds of the list close at the times z + 1, z + 2, ..
  module _ (K : Bond → Keys) where
    abbrev pub CloseFrom : ℕ → List Bond → Type 0
    CloseFrom = From (λ b z. K b ≡ keys (T b) (suc z))

    keyed-close : (n m : ℕ) (xs stk : List ℕ) (b : Bond) (t : List Slot) (bs : List Bond) (z : ℕ) (ks : List Keys) → ClosesAt n b → 0 < count (eq_bond b) (open_of t) → K b ≡ keys (T b) (suc z)
        → step_keyed (ring 0 (find b t)) (keyed (st xs bs n m (hooks t) stk) z (stamps t) ks) ≡ keyed (st xs (bs ++ (b ∷ [])) n m (hooks (release b t)) stk) (suc z) (stamps (release b t)) (ks ++ (K b ∷ []))
    keyed-close n m xs stk b t bs z ks a h e =
        let f = find-hook b t h in
        let p : set_stamp (stamps t) (find b t) (stamp_for (closure_at (hooks t) (find b t)) z) ≡ stamps (release b t) =
        ap (λ (x : Closure). set_stamp (stamps t) (find b t) (stamp_for x z)) f ∙ find-unstamp b t h in
        let w : keys_between b.lo n (T b) (suc z) ≡ K b = ap (λ (x : Bool). cond x (keys (T b) (suc z)) (keys (suc z) (T b))) (lt-ltb b.lo n a.below) ∙ sym e in
        let r : bridge_keys (closure_at (hooks t) (find b t)) n (get_or (stamps t) (find b t) 0) (suc z) ≡ K b ∷ [] =
        (λ i. bridge_keys (f i) n (find-stamp b t h i) (suc z)) ∙ ap (λ (x : Keys). x ∷ []) w in
        λ i. keyed (step-close n m xs stk b t bs a h i) (suc z) (p i) (ks ++ r i)

    keyed-closes : (n m : ℕ) (xs stk : List ℕ) (c : List Bond) (t : List Slot) (bs : List Bond) (z : ℕ) (ks : List Keys) → All (ClosesAt n) c → Within c (open_of t) → CloseFrom z c
        → run_keyed (close_toks c t) (keyed (st xs bs n m (hooks t) stk) z (stamps t) ks) ≡ keyed (st xs (bs ++ c) n m (hooks (close_all c t)) stk) (z + length c) (stamps (close_all c t)) (ks ++ map K c)
    keyed-closes n m xs stk [] t bs z ks a w e =
        let q : z ≡ z + 0 = omega arith in λ i. keyed (st xs (sym (append-nil bs) i) n m (hooks t) stk) (q i) (stamps t) (sym (append-nil ks) i)
    keyed-closes n m xs stk (b ∷ c) t bs z ks (more h a) w (e, f) =
        let t1 = release b t in
        let q : suc z + length c ≡ z + suc (length c) = omega arith in
        ap (run_keyed (close_toks c t1)) (keyed-close n m xs stk b t bs z ks h (first-in b c (open_of t) w) e)
        ∙ keyed-closes n m xs stk c t1 (bs ++ (b ∷ [])) (suc z) (ks ++ (K b ∷ [])) a (close-within b c t w) f
        ∙ (λ i. keyed (st xs (append_assoc bs (b ∷ []) c i) n m (hooks (close_all c t1)) stk) (q i) (stamps (close_all c t1)) (append_assoc ks (K b ∷ []) (map K c) i))

-- reading a forest with further bonds, whose keys are K and which open at the times T
module _ (N : List Bond) (c o : ℕ → List Bond) (k : Back N c o) (T : Bond → ℕ) (K : Bond → Keys)
    (close : (n : ℕ) → CloseFrom T K (rings_before c o n) (c n)) (opening : (n : ℕ) → OpenFrom T (rings_before c o n + length (c n)) (o n)) where
  abbrev R : ℕ → ℕ
  R = rings_before c o

  -- a reading at the time of the atom m, with the places of t open
  abbrev At : List ℕ → List Bond → ℕ → ℕ → ℕ → List Slot → List ℕ → List Keys → Keyed
  At xs bs h n m t stk ks = keyed (st xs bs h n (hooks t) stk) (R m) (stamps T t) ks

  keyed-rings : (n m : ℕ) (xs stk : List ℕ) (t : List Slot) (bs : List Bond) (ks : List Keys) → Inv N c o k n t
      → run_keyed (ring_toks c o n t) (At xs bs n m n t stk ks) ≡ At xs (bs ++ c n) n m (suc n) (rings c o n t) stk (ks ++ map K (c n))
  keyed-rings n m xs stk t bs ks v =
      let t1 = close_all (c n) t in
      let e : R n + length (c n) + length (o n) ≡ R n + (length (c n) + length (o n)) = omega arith in
      keyed-append (close_toks (c n) t) (open_toks (o n) t1) (At xs bs n m n t stk ks)
      ∙ ap (run_keyed (open_toks (o n) t1)) (keyed-closes T K n m xs stk (c n) t bs (R n) ks (closes_at N c o k n) (closes-within N c o k n t v) (close n))
      ∙ keyed-opens T n m xs stk (o n) t1 (bs ++ c n) (R n + length (c n)) (ks ++ map K (c n)) (opens_at N c o k n) (opening n)
      ∙ ap (λ (z : ℕ). keyed (st xs (bs ++ c n) n m (hooks (rings c o n t)) stk) z (stamps T (rings c o n t)) (ks ++ map K (c n))) e

  keyed-body : (f : Forest) (n : ℕ) (t : List Slot) (xs : List ℕ) (bs : List Bond) (ks : List Keys) (stk : List ℕ) → Inv N c o k n t
      → ((xs : List ℕ) (bs : List Bond) (ks : List Keys) → run_keyed (toks c o f (suc n) (rings c o n t)) (At xs bs n (suc n) (suc n) (rings c o n t) stk ks)
      ≡ At (xs ++ pre f) (bs ++ done c o f n (suc n)) (end_hub f n (suc n)) (suc n + size f) (suc n + size f) (after c o f (suc n) (rings c o n t)) stk (ks ++ map K (done c o f n (suc n))))
      → run_keyed (ring_toks c o n t ++ toks c o f (suc n) (rings c o n t)) (At xs bs n (suc n) n t stk ks)
      ≡ At (xs ++ pre f) (bs ++ (c n ++ done c o f n (suc n))) (end_hub f n (suc n)) (suc n + size f) (suc n + size f) (after c o f (suc n) (rings c o n t)) stk (ks ++ (map K (c n) ++ map K (done c o f n (suc n))))
  keyed-body f n t xs bs ks stk v ih =
      let D = done c o f n (suc n) in
      let t2 = after c o f (suc n) (rings c o n t) in
      keyed-append (ring_toks c o n t) (toks c o f (suc n) (rings c o n t)) (At xs bs n (suc n) n t stk ks)
      ∙ ap (run_keyed (toks c o f (suc n) (rings c o n t))) (keyed-rings n (suc n) xs stk t bs ks v)
      ∙ ih xs (bs ++ c n) (ks ++ map K (c n))
      ∙ (λ i. At (xs ++ pre f) (append_assoc bs (c n) D i) (end_hub f n (suc n)) (suc n + size f) (suc n + size f) t2 stk (append_assoc ks (map K (c n)) (map K D) i))

  keyed-wrap : (g : Forest) (x : List Tok) (xs ys : List ℕ) (bs ds : List Bond) (h e n m n' m' : ℕ) (t t' : List Slot) (ks ls : List Keys) (stk : List ℕ)
      → ((stk : List ℕ) → run_keyed x (At xs bs h n n' t stk ks) ≡ At ys ds e m m' t' stk ls)
      → run_keyed (wrap g x) (At xs bs h n n' t stk ks) ≡ At ys ds (hub_after g h e) m m' t' stk ls
  keyed-wrap leaf x xs ys bs ds h e n m n' m' t t' ks ls stk r = r stk
  keyed-wrap (node w j f g) x xs ys bs ds h e n m n' m' t t' ks ls stk r =
      (λ i. run_keyed (x ++ (back ∷ [])) (At xs bs h n n' t (h ∷ stk) (append-nil ks i)))
      ∙ keyed-append x (back ∷ []) (At xs bs h n n' t (h ∷ stk) ks)
      ∙ ap (run_keyed (back ∷ [])) (r (h ∷ stk))
      ∙ (λ i. At ys ds h m m' t' stk (append-nil ls i))

  done-hub : (g : Forest) (h e n : ℕ) → done c o g (hub_after g h e) n ≡ done c o g h n
  done-hub leaf h e n = refl
  done-hub (node w j f g) h e n = refl

  tree-hub : (g : Forest) (h e n : ℕ) → tree g (hub_after g h e) n ≡ tree g h n
  tree-hub leaf h e n = refl
  tree-hub (node w j f g) h e n = refl

  abbrev Grown : Bond → Type 0
  Grown b = K b ≡ child_keys

  -- reading the children of the hub
  keyed-kids : (F : Forest) (n h : ℕ) (t : List Slot) (xs : List ℕ) (bs : List Bond) (ks : List Keys) (stk : List ℕ) → Inv N c o k n t → All Grown (tree F h n)
      → run_keyed (toks c o F n t) (At xs bs h n n t stk ks) ≡ At (xs ++ pre F) (bs ++ done c o F h n) (end_hub F h n) (n + size F) (n + size F) (after c o F n t) stk (ks ++ map K (done c o F h n))
  keyed-kids leaf n h t xs bs ks stk v none = let e : n ≡ n + 0 = omega arith in λ i. At (sym (append-nil xs) i) (sym (append-nil bs) i) h (e i) (e i) t stk (sym (append-nil ks) i)
  keyed-kids (node w j f g) n h t xs bs ks stk v (more a al) =
      let u = rings c o n t in
      let t2 = after c o f (suc n) u in
      let v1 = inv-rings N c o k n t v in
      let e = end_hub f n (suc n) in
      let n2 = suc n + size f in
      let B = bond h n j in
      let Df = done c o f n (suc n) in
      let body = along j w ∷ (ring_toks c o n t ++ toks c o f (suc n) u) in
      let ys = (xs ++ (w ∷ [])) ++ pre f in
      let ds = (bs ++ (B ∷ [])) ++ (c n ++ Df) in
      let ls = (ks ++ (K B ∷ [])) ++ (map K (c n) ++ map K Df) in
      let en : n2 + size g ≡ n + suc (size f + size g) = omega arith in
      let af : All Grown (tree f n (suc n)) = all_left Grown (tree f n (suc n)) (tree g h n2) al in
      let ag : All Grown (tree g (hub_after g h e) n2) = rw (tree-hub g h e n2) (all_right Grown (tree f n (suc n)) (tree g h n2) al) in
      let start : (stk : List ℕ) → run_keyed body (At xs bs h n n t stk ks) ≡ At ys ds e n2 n2 t2 stk ls = λ stk.
      (λ i. run_keyed (ring_toks c o n t ++ toks c o f (suc n) u) (At (xs ++ (w ∷ [])) (bs ++ (B ∷ [])) n (suc n) n t stk (ks ++ (sym a i ∷ []))))
      ∙ keyed-body f n t (xs ++ (w ∷ [])) (bs ++ (B ∷ [])) (ks ++ (K B ∷ [])) stk v (λ xs bs ks. keyed-kids f (suc n) n u xs bs ks stk v1 af) in
      keyed-append (wrap g body) (toks c o g n2 t2) (At xs bs h n n t stk ks)
      ∙ ap (run_keyed (toks c o g n2 t2)) (keyed-wrap g body xs ys bs ds h e n n2 n n2 t t2 ks ls stk start)
      ∙ keyed-kids g n2 (hub_after g h e) t2 ys ds ls stk (inv-after N c o k f (suc n) u v1) ag
      ∙ (λ i. At (regroup xs w (pre f) (pre g) i) (pile bs B (c n) Df (done c o g (hub_after g h e) n2) (done c o g h n2) (done-hub g h e n2) i)
      (end_hub g (hub_after g h e) n2) (en i) (en i) (after c o g n2 t2) stk (heap ks B (c n) Df (done c o g (hub_after g h e) n2) (done c o g h n2) (done-hub g h e n2) i))
    where
      regroup : (xs : List ℕ) (w : ℕ) (a b : List ℕ) → ((xs ++ (w ∷ [])) ++ a) ++ b ≡ xs ++ (w ∷ (a ++ b))
      regroup xs w a b = simp append_assoc

      pile : (bs : List Bond) (x : Bond) (a b d d' : List Bond) → d ≡ d' → ((bs ++ (x ∷ [])) ++ (a ++ b)) ++ d ≡ bs ++ (x ∷ (a ++ (b ++ d')))
      pile bs x a b d d' e = rw e (simp append_assoc)

      heap : (ks : List Keys) (x : Bond) (a b d d' : List Bond) → d ≡ d' → ((ks ++ (K x ∷ [])) ++ (map K a ++ map K b)) ++ map K d ≡ ks ++ (K x ∷ map K (a ++ (b ++ d')))
      heap ks x a b d d' e = rw e (simp (map-append, append_assoc))

  -- reading the whole text
  pub keyed-text : (F : Forest) (n h : ℕ) (t : List Slot) (xs : List ℕ) (bs : List Bond) (ks : List Keys) → Inv N c o k n t → All Grown (trees F n)
      → run_keyed (text c o F n t) (At xs bs h n n t [] ks) ≡ At (xs ++ pre F) (bs ++ done_all c o F n) (last_hub F h n) (n + size F) (n + size F) (after c o F n t) [] (ks ++ map K (done_all c o F n))
  keyed-text leaf n h t xs bs ks v none = let e : n ≡ n + 0 = omega arith in λ i. At (sym (append-nil xs) i) (sym (append-nil bs) i) h (e i) (e i) t [] (sym (append-nil ks) i)
  keyed-text (node w j f g) n h t xs bs ks v al =
      let u = rings c o n t in
      let t2 = after c o f (suc n) u in
      let v1 = inv-rings N c o k n t v in
      let e = end_hub f n (suc n) in
      let n2 = suc n + size f in
      let Df = done c o f n (suc n) in
      let body = ring_toks c o n t ++ toks c o f (suc n) u in
      let ys = (xs ++ (w ∷ [])) ++ pre f in
      let ds = bs ++ (c n ++ Df) in
      let ls = ks ++ (map K (c n) ++ map K Df) in
      let en : n2 + size g ≡ n + suc (size f + size g) = omega arith in
      let af : All Grown (tree f n (suc n)) = all_left Grown (tree f n (suc n)) (trees g n2) al in
      let ag : All Grown (trees g n2) = all_right Grown (tree f n (suc n)) (trees g n2) al in
      (λ i. run_keyed (body ++ text c o g n2 t2) (At (xs ++ (w ∷ [])) bs n (suc n) n t [] (append-nil ks i)))
      ∙ keyed-append body (text c o g n2 t2) (At (xs ++ (w ∷ [])) bs n (suc n) n t [] ks)
      ∙ ap (run_keyed (text c o g n2 t2)) (keyed-body f n t (xs ++ (w ∷ [])) bs ks [] v (λ xs bs ks. keyed-kids f (suc n) n u xs bs ks [] v1 af))
      ∙ keyed-text g n2 e t2 ys ds ls (inv-after N c o k f (suc n) u v1) ag
      ∙ (λ i. At (regroup xs w (pre f) (pre g) i) (pile bs (c n) Df (done_all c o g n2) i) (last_hub g e n2) (en i) (en i) (after c o g n2 t2) [] (heap ks (c n) Df (done_all c o g n2) i))
    where
      regroup : (xs : List ℕ) (w : ℕ) (a b : List ℕ) → ((xs ++ (w ∷ [])) ++ a) ++ b ≡ xs ++ (w ∷ (a ++ b))
      regroup xs w a b = simp append_assoc

      pile : (bs : List Bond) (a b d : List Bond) → (bs ++ (a ++ b)) ++ d ≡ bs ++ (a ++ (b ++ d))
      pile bs a b d = simp append_assoc

      heap : (ks : List Keys) (a b d : List Bond) → (ks ++ (map K a ++ map K b)) ++ map K d ≡ ks ++ map K (a ++ (b ++ d))
      heap ks a b d = simp (map-append, append_assoc)
