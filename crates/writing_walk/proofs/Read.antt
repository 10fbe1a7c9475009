-- Reading what was emitted. Assumes nothing.
use mathlib.Core.Path.{◌≡◌, refl, sym, ap, ◌∙◌}
use mathlib.Core.Bool.{Bool, true, false, ◌&&◌, cond, not}
use mathlib.Core.List.{List, [], ◌∷◌, ◌++◌, map, append_assoc, append-nil}
use Prim.Native.Nat.{ℕ, suc, ◌+◌, ◌≤◌, ◌<◌}
use native.Mathlib.Omega.{arith}
use lib.Dec.{eqb, ltb}
use borrow.Author.Tests.{eq-eqb, ne_eqb, eqb-true, eqb-false, lt-ltb, ltb-true, ltb-false, le-leb, lt-leb, le-ltb}
use Rattle.writing_walk.specs.Token.{Bond, bond, eq_bond, Tok, along, ring, back, bond_between}
use Rattle.writing_walk.specs.Reading.{Closure, vacant, at, closure_at, set_closure, St, st, bridge, step_token, run_tokens}
use Rattle.writing_walk.specs.Emit.{Forest, leaf, node, size, pre, Slot, free, held, lowest, insert, find, release, close_all, close_toks, open_all, open_toks, wrap, rings, ring_toks, after, toks, text, done, done_all, hub_after, end_hub, last_hub}
pub use Rattle.writing_walk.specs.Same.{open_of, Within, pending}
use Rattle.writing_walk.proofs.Count.{bit, count, and_left, and_right, bond-same, bond-eq, All, none, more, all_map, nobody, all-of}

pub run-append : (a b : List Tok) (s : St) → run_tokens (a ++ b) s ≡ run_tokens b (run_tokens a s)
run-append [] b s = refl
run-append (t ∷ a) b s = run-append a b (step_token t s)

abbrev pub hook : Slot → Closure
hook free = vacant
hook (held b) = at b.lo b.kind

abbrev pub hooks : List Slot → List Closure
hooks t = map hook t

pub lowest-vacant : (t : List Slot) → closure_at (hooks t) (lowest t) ≡ vacant
lowest-vacant [] = refl
lowest-vacant (free ∷ t) = refl
lowest-vacant (held b ∷ t) = lowest-vacant t

lowest-hang : (b : Bond) (t : List Slot) → set_closure (hooks t) (lowest t) (at b.lo b.kind) ≡ hooks (insert b t)
lowest-hang b [] = refl
lowest-hang b (free ∷ t) = refl
lowest-hang b (held x ∷ t) = ap (λ (l : List Closure). at x.lo x.kind ∷ l) (lowest-hang b t)

pub insert-count : (p : Bond → Bool) (b : Bond) (t : List Slot) → count p (open_of (insert b t)) ≡ bit (p b) + count p (open_of t)
insert-count p b [] = refl
insert-count p b (free ∷ t) = refl
insert-count p b (held x ∷ t) = omega (arith, insert-count p b t)

-- one slot more, by whether it holds the bond
pub find-hook : (b : Bond) (t : List Slot) → 0 < count (eq_bond b) (open_of t) → closure_at (hooks t) (find b t) ≡ at b.lo b.kind
find-hook b [] h = absurd (omega arith)
find-hook b (free ∷ t) h = find-hook b t h
find-hook b (held x ∷ t) h = go (eq_bond b x) refl h (find-hook b t)
  where
    go : (e : Bool) → eq_bond b x ≡ e → 0 < bit e + count (eq_bond b) (open_of t) → (0 < count (eq_bond b) (open_of t) → closure_at (hooks t) (find b t) ≡ at b.lo b.kind)
        → closure_at (hooks (held x ∷ t)) (cond e 0 (suc (find b t))) ≡ at b.lo b.kind
    go true e h f = ap (λ (y : Bond). at y.lo y.kind) (sym (bond-eq b x e))
    go false e h f = f (omega arith)

find-hang : (b : Bond) (t : List Slot) → 0 < count (eq_bond b) (open_of t) → set_closure (hooks t) (find b t) vacant ≡ hooks (release b t)
find-hang b [] h = absurd (omega arith)
find-hang b (free ∷ t) h = ap (λ (l : List Closure). vacant ∷ l) (find-hang b t h)
find-hang b (held x ∷ t) h = go (eq_bond b x) h (find-hang b t)
  where
    go : (e : Bool) → 0 < bit e + count (eq_bond b) (open_of t) → (0 < count (eq_bond b) (open_of t) → set_closure (hooks t) (find b t) vacant ≡ hooks (release b t))
        → set_closure (hooks (held x ∷ t)) (cond e 0 (suc (find b t))) vacant ≡ hooks (cond e (free ∷ t) (held x ∷ release b t))
    go true h f = refl
    go false h f = ap (λ (l : List Closure). at x.lo x.kind ∷ l) (f (omega arith))

release-count : (p : Bond → Bool) (b : Bond) (t : List Slot) → 0 < count (eq_bond b) (open_of t) → count p (open_of t) ≡ bit (p b) + count p (open_of (release b t))
release-count p b [] h = absurd (omega arith)
release-count p b (free ∷ t) h = release-count p b t h
release-count p b (held x ∷ t) h = go (eq_bond b x) refl h (release-count p b t)
  where
    go : (e : Bool) → eq_bond b x ≡ e → 0 < bit e + count (eq_bond b) (open_of t) → (0 < count (eq_bond b) (open_of t) → count p (open_of t) ≡ bit (p b) + count p (open_of (release b t)))
        → bit (p x) + count p (open_of t) ≡ bit (p b) + count p (open_of (cond e (free ∷ t) (held x ∷ release b t)))
    go true e h f = ap (λ (y : Bond). bit (p y) + count p (open_of t)) (sym (bond-eq b x e))
    go false e h f = omega (arith, f (omega arith))

-- what is open, less c
abbrev pub Split : List Bond → List Bond → List Bond → Type 0
Split l c r = (p : Bond → Bool) → count p l ≡ count p c + count p r

pub first-in : (b : Bond) (c l : List Bond) → Within (b ∷ c) l → 0 < count (eq_bond b) l
first-in b c l w = omega (arith, w (eq_bond b), ap bit (bond-same b))

pub close-within : (b : Bond) (c : List Bond) (t : List Slot) → Within (b ∷ c) (open_of t) → Within c (open_of (release b t))
close-within b c t w p = omega (arith, w p, release-count p b t (first-in b c (open_of t) w))

pub close-count : (c : List Bond) (t : List Slot) → Within c (open_of t) → Split (open_of t) c (open_of (close_all c t))
close-count [] t w p = omega arith
close-count (b ∷ c) t w p = omega (arith, release-count p b t (first-in b c (open_of t) w), close-count c (release b t) (close-within b c t w) p)

pub open-count : (o : List Bond) (t : List Slot) → Split (open_of (open_all o t)) o (open_of t)
open-count [] t p = omega arith
open-count (b ∷ o) t p = omega (arith, insert-count p b t, open-count o (insert b t) p)

-- reading the closings at the hub n
pub record ClosesAt (n : ℕ) (b : Bond) : Type 0 where
  pub below : b.lo < n
  pub here : b.hi ≡ n

joined_at : (n : ℕ) (b : Bond) → ClosesAt n b → bond_between b.lo n b.kind ≡ b
joined_at n b h = rw (lt-ltb b.lo n h.below) (λ i. record { lo = b.lo; hi = sym h.here i; kind = b.kind })

-- a bridge found at its place
pub bridged : (x y : Closure) → x ≡ y → (k m : ℕ) (xs : List ℕ) (bs : List Bond) (h n : ℕ) (hs : List Closure) (stk : List ℕ) → bridge x k m xs bs h n hs stk ≡ bridge y k m xs bs h n hs stk
bridged x y e k m xs bs h n hs stk = ap (λ (z : Closure). bridge z k m xs bs h n hs stk) e

pub step-close : (n m : ℕ) (xs stk : List ℕ) (b : Bond) (t : List Slot) (bs : List Bond) → ClosesAt n b → 0 < count (eq_bond b) (open_of t)
    → step_token (ring 0 (find b t)) (st xs bs n m (hooks t) stk) ≡ st xs (bs ++ (b ∷ [])) n m (hooks (release b t)) stk
step-close n m xs stk b t bs a h =
    bridged (closure_at (hooks t) (find b t)) (at b.lo b.kind) (find-hook b t h) 0 (find b t) xs bs n m (hooks t) stk
    ∙ (λ i. st xs (bs ++ (joined_at n b a i ∷ [])) n m (find-hang b t h i) stk)

pub read-closes : (n m : ℕ) (xs stk : List ℕ) (c : List Bond) (t : List Slot) (bs : List Bond) → All (ClosesAt n) c → Within c (open_of t)
    → run_tokens (close_toks c t) (st xs bs n m (hooks t) stk) ≡ st xs (bs ++ c) n m (hooks (close_all c t)) stk
read-closes n m xs stk [] t bs a w = ap (λ (l : List Bond). st xs l n m (hooks t) stk) (sym (append-nil bs))
read-closes n m xs stk (b ∷ c) t bs (more h a) w =
    ap (run_tokens (close_toks c (release b t))) (step-close n m xs stk b t bs h (first-in b c (open_of t) w))
    ∙ read-closes n m xs stk c (release b t) (bs ++ (b ∷ [])) a (close-within b c t w)
    ∙ ap (λ (l : List Bond). st xs l n m (hooks (close_all c (release b t))) stk) (append_assoc bs (b ∷ []) c)

pub hang-at : (n : ℕ) (b : Bond) (t : List Slot) → b.lo ≡ n → set_closure (hooks t) (lowest t) (at n b.kind) ≡ hooks (insert b t)
hang-at n b t e = ap (λ (x : ℕ). set_closure (hooks t) (lowest t) (at x b.kind)) (sym e) ∙ lowest-hang b t

pub read-opens : (n m : ℕ) (xs stk : List ℕ) (o : List Bond) (t : List Slot) (bs : List Bond) → All (λ b. b.lo ≡ n) o
    → run_tokens (open_toks o t) (st xs bs n m (hooks t) stk) ≡ st xs bs n m (hooks (open_all o t)) stk
read-opens n m xs stk [] t bs a = refl
read-opens n m xs stk (b ∷ o) t bs (more h a) =
    ap (run_tokens (open_toks o (insert b t)))
    (bridged (closure_at (hooks t) (lowest t)) vacant (lowest-vacant t) b.kind (lowest t) xs bs n m (hooks t) stk ∙ (λ i. st xs bs n m (hang-at n b t h i) stk))
    ∙ read-opens n m xs stk o (insert b t) bs a

pub record Back (N : List Bond) (c o : ℕ → List Bond) : Type 0 where
  pub ordered : All (λ b. b.lo < b.hi) N
  pub closes : (n : ℕ) (p : Bond → Bool) → count p (c n) ≡ count (λ b. p b && eqb b.hi n) N
  pub opens : (n : ℕ) (p : Bond → Bool) → count p (o n) ≡ count (λ b. p b && eqb b.lo n) N

pub data Tri (a b : ℕ) : Type 0 where
  below : a < b → Tri a b
  same : a ≡ b → Tri a b
  above : b < a → Tri a b

pub tri : (a b : ℕ) → Tri a b
tri a b = go (ltb a b) refl (eqb a b) refl
  where
    go : (x : Bool) → ltb a b ≡ x → (y : Bool) → eqb a b ≡ y → Tri a b
    go true h y k = below (ltb-true a b h)
    go false h true k = same (eqb-true a b k)
    go false h false k = above (let g = ltb-false a b h in let z = eqb-false a b k in omega arith)

-- at each atom: what was open, with what opens, is what closes, with what is open after it
balance : (n : ℕ) (b : Bond) → b.lo < b.hi → bit (pending n b) + bit (eqb b.lo n) ≡ bit (eqb b.hi n) + bit (pending (suc n) b)
balance n b h = go (tri b.lo n) (tri b.hi n)
  where
    go : Tri b.lo n → Tri b.hi n → bit (pending n b) + bit (eqb b.lo n) ≡ bit (eqb b.hi n) + bit (pending (suc n) b)
    go (below l) (below g) = rw (lt-ltb b.lo n l, lt-leb n b.hi g, ne_eqb b.lo n (omega arith), ne_eqb b.hi n (omega arith), lt-ltb b.lo (suc n) (omega arith), lt-leb (suc n) b.hi (omega arith))
    go (below l) (same g) = rw (lt-ltb b.lo n l, le-leb n b.hi (omega arith), ne_eqb b.lo n (omega arith), eq-eqb b.hi n g, lt-ltb b.lo (suc n) (omega arith), lt-leb (suc n) b.hi (omega arith))
    go (below l) (above g) = rw (lt-ltb b.lo n l, le-leb n b.hi (omega arith), ne_eqb b.lo n (omega arith), ne_eqb b.hi n (omega arith), lt-ltb b.lo (suc n) (omega arith), le-leb (suc n) b.hi (omega arith))
    go (same l) (below g) = absurd (omega arith)
    go (same l) (same g) = absurd (omega arith)
    go (same l) (above g) = rw (le-ltb b.lo n (omega arith), eq-eqb b.lo n l, ne_eqb b.hi n (omega arith), lt-ltb b.lo (suc n) (omega arith), le-leb (suc n) b.hi (omega arith))
    go (above l) (below g) = absurd (omega arith)
    go (above l) (same g) = absurd (omega arith)
    go (above l) (above g) = rw (le-ltb b.lo n (omega arith), ne_eqb b.lo n (omega arith), ne_eqb b.hi n (omega arith), le-ltb b.lo (suc n) (omega arith))

and-balance : (p x y z w : Bool) → bit x + bit y ≡ bit z + bit w → bit (p && x) + bit (p && y) ≡ bit (p && z) + bit (p && w)
and-balance true x y z w h = h
and-balance false x y z w h = refl

count-balance : (n : ℕ) (p : Bond → Bool) (N : List Bond) → All (λ b. b.lo < b.hi) N
    → count (λ b. p b && pending n b) N + count (λ b. p b && eqb b.lo n) N ≡ count (λ b. p b && eqb b.hi n) N + count (λ b. p b && pending (suc n) b) N
count-balance n p [] none = refl
count-balance n p (b ∷ N) (more h a) = omega (arith, and-balance (p b) (pending n b) (eqb b.lo n) (eqb b.hi n) (pending (suc n) b) (balance n b h), count-balance n p N a)

not_same : (x : Bool) → (not x && x) ≡ false
not_same true = refl
not_same false = refl

-- reading a forest with further bonds
module _ (N : List Bond) (c o : ℕ → List Bond) (k : Back N c o) where
  abbrev pub Inv : ℕ → List Slot → Type 0
  Inv n t = (p : Bond → Bool) → count p (open_of t) ≡ count (λ b. p b && pending n b) N

  abbrev close_test : ℕ → Bond → Bool
  close_test n b = ltb b.lo n && eqb b.hi n

  close-one : (n : ℕ) (b : Bond) → b.lo < b.hi → (not (close_test n b) && eqb b.hi n) ≡ false
  close-one n b h = go (eqb b.hi n) refl
    where
      go : (x : Bool) → eqb b.hi n ≡ x → (not (ltb b.lo n && x) && x) ≡ false
      go true e = let q = eqb-true b.hi n e in rw (lt-ltb b.lo n (omega arith))
      go false e = and-false (not (ltb b.lo n && false))
        where
          and-false : (x : Bool) → (x && false) ≡ false
          and-false true = refl
          and-false false = refl

  pub closes_at : (n : ℕ) → All (ClosesAt n) (c n)
  closes_at n =
      all_map (λ b. close_test n b ≡ true) (ClosesAt n)
      (λ b h. record { below = ltb-true b.lo n (and_left (ltb b.lo n) (eqb b.hi n) h); here = eqb-true b.hi n (and_right (ltb b.lo n) (eqb b.hi n) h) }) (c n)
      (all-of (close_test n) (c n)
      (k.closes n (λ b. not (close_test n b)) ∙ nobody (λ b. not (close_test n b)) (λ b. eqb b.hi n) N (all_map (λ b. b.lo < b.hi) (λ b. (not (close_test n b) && eqb b.hi n) ≡ false) (close-one n) N k.ordered)))

  pub opens_at : (n : ℕ) → All (λ b. b.lo ≡ n) (o n)
  opens_at n =
      all_map (λ b. eqb b.lo n ≡ true) (λ b. b.lo ≡ n) (λ b h. eqb-true b.lo n h) (o n)
      (all-of (λ b. eqb b.lo n) (o n)
      (k.opens n (λ b. not (eqb b.lo n)) ∙ nobody (λ b. not (eqb b.lo n)) (λ b. eqb b.lo n) N (all_map (λ b. b.lo < b.hi) (λ b. (not (eqb b.lo n) && eqb b.lo n) ≡ false) (λ b h. not_same (eqb b.lo n)) N k.ordered)))

  close-pending : (p : Bond → Bool) (n : ℕ) (M : List Bond) → All (λ b. b.lo < b.hi) M → count (λ b. p b && eqb b.hi n) M ≤ count (λ b. p b && pending n b) M
  close-pending p n [] none = omega arith
  close-pending p n (b ∷ M) (more h a) = omega (arith, go (p b) (eqb b.hi n) refl, close-pending p n M a)
    where
      go : (x y : Bool) → eqb b.hi n ≡ y → bit (x && y) ≤ bit (x && pending n b)
      go false y e = omega arith
      go true true e = let q = eqb-true b.hi n e in rw (lt-ltb b.lo n (omega arith), le-leb n b.hi (omega arith)) (omega arith)
      go true false e = omega arith

  pub closes-within : (n : ℕ) (t : List Slot) → Inv n t → Within (c n) (open_of t)
  closes-within n t v p = omega (arith, v p, k.closes n p, close-pending p n N k.ordered)

  pub inv-rings : (n : ℕ) (t : List Slot) → Inv n t → Inv (suc n) (rings c o n t)
  inv-rings n t v p = omega (arith, v p, k.closes n p, k.opens n p, close-count (c n) t (closes-within n t v) p, open-count (o n) (close_all (c n) t) p, count-balance n p N k.ordered)

  pub read-rings : (n m : ℕ) (xs stk : List ℕ) (t : List Slot) (bs : List Bond) → Inv n t
      → run_tokens (ring_toks c o n t) (st xs bs n m (hooks t) stk) ≡ st xs (bs ++ c n) n m (hooks (rings c o n t)) stk
  read-rings n m xs stk t bs v =
      run-append (close_toks (c n) t) (open_toks (o n) (close_all (c n) t)) (st xs bs n m (hooks t) stk)
      ∙ ap (run_tokens (open_toks (o n) (close_all (c n) t))) (read-closes n m xs stk (c n) t bs (closes_at n) (closes-within n t v))
      ∙ read-opens n m xs stk (o n) (close_all (c n) t) (bs ++ c n) (opens_at n)

  pub inv-after : (F : Forest) (n : ℕ) (t : List Slot) → Inv n t → Inv (n + size F) (after c o F n t)
  inv-after leaf n t v = let e : n + 0 ≡ n = omega arith in rw e v
  inv-after (node w j f g) n t v =
      let e : n + suc (size f + size g) ≡ suc n + size f + size g = omega arith in
      rw e (inv-after g (suc n + size f) (after c o f (suc n) (rings c o n t)) (inv-after f (suc n) (rings c o n t) (inv-rings n t v)))

  -- a child's own part, before a branch is put around it: an atom that was just read, its bridges and its children
  pub read-body : (f : Forest) (n : ℕ) (t : List Slot) (xs : List ℕ) (bs : List Bond) (stk : List ℕ) → Inv n t
      → ((xs : List ℕ) (bs : List Bond) → run_tokens (toks c o f (suc n) (rings c o n t)) (st xs bs n (suc n) (hooks (rings c o n t)) stk) ≡ st (xs ++ pre f) (bs ++ done c o f n (suc n)) (end_hub f n (suc n)) (suc n + size f) (hooks (after c o f (suc n) (rings c o n t))) stk)
      → run_tokens (ring_toks c o n t ++ toks c o f (suc n) (rings c o n t)) (st xs bs n (suc n) (hooks t) stk)
      ≡ st (xs ++ pre f) (bs ++ (c n ++ done c o f n (suc n))) (end_hub f n (suc n)) (suc n + size f) (hooks (after c o f (suc n) (rings c o n t))) stk
  read-body f n t xs bs stk v ih =
      run-append (ring_toks c o n t) (toks c o f (suc n) (rings c o n t)) (st xs bs n (suc n) (hooks t) stk)
      ∙ ap (run_tokens (toks c o f (suc n) (rings c o n t))) (read-rings n (suc n) xs stk t bs v)
      ∙ ih xs (bs ++ c n)
      ∙ ap (λ (l : List Bond). st (xs ++ pre f) l (end_hub f n (suc n)) (suc n + size f) (hooks (after c o f (suc n) (rings c o n t))) stk) (append_assoc bs (c n) (done c o f n (suc n)))

  pub read-wrap : (g : Forest) (x : List Tok) (xs ys : List ℕ) (bs ds : List Bond) (h e n m : ℕ) (hs ks : List Closure) (stk : List ℕ)
      → ((stk : List ℕ) → run_tokens x (st xs bs h n hs stk) ≡ st ys ds e m ks stk)
      → run_tokens (wrap g x) (st xs bs h n hs stk) ≡ st ys ds (hub_after g h e) m ks stk
  read-wrap leaf x xs ys bs ds h e n m hs ks stk r = r stk
  read-wrap (node w j f g) x xs ys bs ds h e n m hs ks stk r = run-append x (back ∷ []) (st xs bs h n hs (h ∷ stk)) ∙ ap (run_tokens (back ∷ [])) (r (h ∷ stk))

  done-hub : (g : Forest) (h e n : ℕ) → done c o g (hub_after g h e) n ≡ done c o g h n
  done-hub leaf h e n = refl
  done-hub (node w j f g) h e n = refl

  -- reading the children of the hub
  pub read-kids : (F : Forest) (n h : ℕ) (t : List Slot) (xs : List ℕ) (bs : List Bond) (stk : List ℕ) → Inv n t
      → run_tokens (toks c o F n t) (st xs bs h n (hooks t) stk) ≡ st (xs ++ pre F) (bs ++ done c o F h n) (end_hub F h n) (n + size F) (hooks (after c o F n t)) stk
  read-kids leaf n h t xs bs stk v = let e : n ≡ n + 0 = omega arith in λ i. st (sym (append-nil xs) i) (sym (append-nil bs) i) h (e i) (hooks t) stk
  read-kids (node w j f g) n h t xs bs stk v =
      let u = rings c o n t in
      let t2 = after c o f (suc n) u in
      let v1 = inv-rings n t v in
      let e = end_hub f n (suc n) in
      let n2 = suc n + size f in
      let body = along j w ∷ (ring_toks c o n t ++ toks c o f (suc n) u) in
      let ys = (xs ++ (w ∷ [])) ++ pre f in
      let ds = (bs ++ (bond h n j ∷ [])) ++ (c n ++ done c o f n (suc n)) in
      let en : n2 + size g ≡ n + suc (size f + size g) = omega arith in
      run-append (wrap g body) (toks c o g n2 t2) (st xs bs h n (hooks t) stk)
      ∙ ap (run_tokens (toks c o g n2 t2)) (read-wrap g body xs ys bs ds h e n n2 (hooks t) (hooks t2) stk
      (λ stk. read-body f n t (xs ++ (w ∷ [])) (bs ++ (bond h n j ∷ [])) stk v (λ xs bs. read-kids f (suc n) n u xs bs stk v1)))
      ∙ read-kids g n2 (hub_after g h e) t2 ys ds stk (inv-after f (suc n) u v1)
      ∙ (λ i. st (regroup xs w (pre f) (pre g) i) (pile bs (bond h n j) (c n) (done c o f n (suc n)) (done c o g (hub_after g h e) n2) (done c o g h n2) (done-hub g h e n2) i) (end_hub g (hub_after g h e) n2) (en i) (hooks (after c o g n2 t2)) stk)
    where
      regroup : (xs : List ℕ) (w : ℕ) (a b : List ℕ) → ((xs ++ (w ∷ [])) ++ a) ++ b ≡ xs ++ (w ∷ (a ++ b))
      regroup xs w a b = simp append_assoc

      pile : (bs : List Bond) (x : Bond) (a b d d' : List Bond) → d ≡ d' → ((bs ++ (x ∷ [])) ++ (a ++ b)) ++ d ≡ bs ++ (x ∷ (a ++ (b ++ d')))
      pile bs x a b d d' e = rw e (simp append_assoc)

  -- reading the whole text
  pub read-text : (F : Forest) (n h : ℕ) (t : List Slot) (xs : List ℕ) (bs : List Bond) → Inv n t
      → run_tokens (text c o F n t) (st xs bs h n (hooks t) []) ≡ st (xs ++ pre F) (bs ++ done_all c o F n) (last_hub F h n) (n + size F) (hooks (after c o F n t)) []
  read-text leaf n h t xs bs v = let e : n ≡ n + 0 = omega arith in λ i. st (sym (append-nil xs) i) (sym (append-nil bs) i) h (e i) (hooks t) []
  read-text (node w j f g) n h t xs bs v =
      let u = rings c o n t in
      let t2 = after c o f (suc n) u in
      let v1 = inv-rings n t v in
      let e = end_hub f n (suc n) in
      let n2 = suc n + size f in
      let ys = (xs ++ (w ∷ [])) ++ pre f in
      let ds = bs ++ (c n ++ done c o f n (suc n)) in
      let en : n2 + size g ≡ n + suc (size f + size g) = omega arith in
      run-append (ring_toks c o n t ++ toks c o f (suc n) u) (text c o g n2 t2) (st (xs ++ (w ∷ [])) bs n (suc n) (hooks t) [])
      ∙ ap (run_tokens (text c o g n2 t2)) (read-body f n t (xs ++ (w ∷ [])) bs [] v (λ xs bs. read-kids f (suc n) n u xs bs [] v1))
      ∙ read-text g n2 e t2 ys ds (inv-after f (suc n) u v1)
      ∙ (λ i. st (regroup xs w (pre f) (pre g) i) (pile bs (c n) (done c o f n (suc n)) (done_all c o g n2) i) (last_hub g e n2) (en i) (hooks (after c o g n2 t2)) [])
    where
      regroup : (xs : List ℕ) (w : ℕ) (a b : List ℕ) → ((xs ++ (w ∷ [])) ++ a) ++ b ≡ xs ++ (w ∷ (a ++ b))
      regroup xs w a b = simp append_assoc

      pile : (bs : List Bond) (a b d : List Bond) → (bs ++ (a ++ b)) ++ d ≡ bs ++ (a ++ (b ++ d))
      pile bs a b d = simp append_assoc
