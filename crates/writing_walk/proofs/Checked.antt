-- What is written is read without a refusal, if it is within the limits. Assumes nothing.
use mathlib.Core.Path.{◌≡◌, refl, sym, ap, ◌∙◌, subst}
use mathlib.Core.Bool.{Bool, true, false, ◌&&◌, ◌||◌, cond, not}
use mathlib.Core.List.{List, [], ◌∷◌, ◌++◌, map}
use Prim.Native.Nat.{ℕ, suc, ◌+◌, ◌≤◌, ◌<◌}
use native.Mathlib.Omega.{arith}
use lib.Dec.{eqb, ltb}
use lib.ListN.{length}
use borrow.Author.Tests.{eq-eqb, ne_eqb, eqb-true, lt-ltb}
use Rattle.kinds.specs.Kind.{turned}
use Rattle.kinds.specs.Kind.{meet, clash}
use Rattle.kinds.proofs.Kind.{clash-none}
use Rattle.writing_walk.specs.Token.{Bond, bond, bond_between, Tok, apart, along, ring, branch, back}
use Rattle.writing_walk.specs.Reading.{Closure, vacant, at, closure_at, bridge, step_token, St, st, run_tokens, start_tokens}
use Rattle.writing_walk.specs.Emit.{Forest, leaf, node, size, pre, Slot, lowest, insert, find, release, close_all, close_toks, open_toks, wrap, rings, ring_toks, after, text, toks, done, hub_after, end_hub}
use Rattle.writing_walk.specs.Walk.{forest_of, renumber, closing_bonds, opening_bonds, relabel, renumbered, unused, write}
use Rattle.writing_walk.specs.Check.{ends, some, refused_bridge, refusal, fine, or_number, reading}
use Rattle.writing_walk.specs.Depth.{nests}
use Rattle.writing_walk.proofs.Count.{bit, count, count-append, and_left, and_right, never, All, none, more, all_map, nobody}
use Rattle.writing_walk.proofs.Read.{Back, Inv, hooks, hang-at, lowest-vacant, bridged, read-closes, read-rings, read-body, read-wrap, read-kids, inv-rings, inv-after, closes_at, closes-within, opens_at}
use Rattle.writing_walk.proofs.Whole.{inv-start}
use Rattle.writing_walk.proofs.Walk.{Inside}
use Rattle.writing_walk.proofs.Trip.{back-of, renumbering, inside-unused, completed, round_trip}
use Rattle.writing_walk.proofs.Twice.{Distinct, count_map, distinct-map, completed-inside}

-- the symbols at the ends of the bridges agree
abbrev agrees : Closure → ℕ → Bool
agrees vacant k = true
agrees (at u j) k = not (clash j k)

abbrev clean_at : Tok → St → Bool
clean_at (apart w) s = true
clean_at (along k w) s = true
clean_at (ring k m) (st xs bs h n hs stk) = agrees (closure_at hs m) k
clean_at branch s = true
clean_at back s = true

abbrev clean : List Tok → St → Bool
clean [] s = true
clean (t ∷ ts) s = clean_at t s && clean ts (step_token t s)

clean-append : (a b : List Tok) (s : St) → clean a s ≡ true → clean b (run_tokens a s) ≡ true → clean (a ++ b) s ≡ true
clean-append [] b s h g = g
clean-append (t ∷ a) b s h g = rw (and_left (clean_at t s) (clean a (step_token t s)) h) (clean-append a b (step_token t s) (and_right (clean_at t s) (clean a (step_token t s)) h) g)

clean-on : (b : List Tok) (s s' : St) → s ≡ s' → clean b s' ≡ true → clean b s ≡ true
clean-on b s s' e h = ap (clean b) e ∙ h

no_symbol : (x : Closure) → agrees x 0 ≡ true
no_symbol vacant = refl
no_symbol (at u j) = ap not (clash-none j)

clean-closes : (c : List Bond) (t : List Slot) (s : St) → clean (close_toks c t) s ≡ true
clean-closes [] t s = refl
clean-closes (b ∷ c) t (st xs bs h n hs stk) = rw (no_symbol (closure_at hs (find b t))) (clean-closes c (release b t) (step_token (ring 0 (find b t)) (st xs bs h n hs stk)))

clean-opens : (n m : ℕ) (xs stk : List ℕ) (o : List Bond) (t : List Slot) (bs : List Bond) → All (λ b. b.lo ≡ n) o → clean (open_toks o t) (st xs bs n m (hooks t) stk) ≡ true
clean-opens n m xs stk [] t bs none = refl
clean-opens n m xs stk (b ∷ o) t bs (more h a) =
    let e : step_token (ring b.kind (lowest t)) (st xs bs n m (hooks t) stk) ≡ st xs bs n m (hooks (insert b t)) stk =
    bridged (closure_at (hooks t) (lowest t)) vacant (lowest-vacant t) b.kind (lowest t) xs bs n m (hooks t) stk ∙ (λ i. st xs bs n m (hang-at n b t h i) stk) in
    both (ap (λ (x : Closure). agrees x b.kind) (lowest-vacant t)) (clean-on (open_toks o (insert b t)) (step_token (ring b.kind (lowest t)) (st xs bs n m (hooks t) stk)) (st xs bs n m (hooks (insert b t)) stk) e (clean-opens n m xs stk o (insert b t) bs a))
  where
    both : {x y : Bool} → x ≡ true → y ≡ true → (x && y) ≡ true
    both p q = rw (p, q)

module _ (N : List Bond) (c o : ℕ → List Bond) (k : Back N c o) where
  clean-rings : (n m : ℕ) (xs stk : List ℕ) (t : List Slot) (bs : List Bond) → Inv N c o k n t → clean (ring_toks c o n t) (st xs bs n m (hooks t) stk) ≡ true
  clean-rings n m xs stk t bs v =
      clean-append (close_toks (c n) t) (open_toks (o n) (close_all (c n) t)) (st xs bs n m (hooks t) stk) (clean-closes (c n) t (st xs bs n m (hooks t) stk))
      (clean-on (open_toks (o n) (close_all (c n) t)) (run_tokens (close_toks (c n) t) (st xs bs n m (hooks t) stk)) (st xs (bs ++ c n) n m (hooks (close_all (c n) t)) stk) (read-closes n m xs stk (c n) t bs (closes_at N c o k n) (closes-within N c o k n t v))
      (clean-opens n m xs stk (o n) (close_all (c n) t) (bs ++ c n) (opens_at N c o k n)))

  clean-body : (f : Forest) (n : ℕ) (t : List Slot) (xs : List ℕ) (bs : List Bond) (stk : List ℕ) → Inv N c o k n t
      → ((xs : List ℕ) (bs : List Bond) → clean (toks c o f (suc n) (rings c o n t)) (st xs bs n (suc n) (hooks (rings c o n t)) stk) ≡ true)
      → clean (ring_toks c o n t ++ toks c o f (suc n) (rings c o n t)) (st xs bs n (suc n) (hooks t) stk) ≡ true
  clean-body f n t xs bs stk v h =
      clean-append (ring_toks c o n t) (toks c o f (suc n) (rings c o n t)) (st xs bs n (suc n) (hooks t) stk) (clean-rings n (suc n) xs stk t bs v)
      (clean-on (toks c o f (suc n) (rings c o n t)) (run_tokens (ring_toks c o n t) (st xs bs n (suc n) (hooks t) stk)) (st xs (bs ++ c n) n (suc n) (hooks (rings c o n t)) stk) (read-rings N c o k n (suc n) xs stk t bs v) (h xs (bs ++ c n)))

  clean-wrap : (g : Forest) (x : List Tok) (xs : List ℕ) (bs : List Bond) (h n : ℕ) (hs : List Closure) (stk : List ℕ) → ((stk : List ℕ) → clean x (st xs bs h n hs stk) ≡ true) → clean (wrap g x) (st xs bs h n hs stk) ≡ true
  clean-wrap leaf x xs bs h n hs stk r = r stk
  clean-wrap (node w j f g) x xs bs h n hs stk r = clean-append x (back ∷ []) (st xs bs h n hs (h ∷ stk)) (r (h ∷ stk)) refl

  clean-kids : (F : Forest) (n h : ℕ) (t : List Slot) (xs : List ℕ) (bs : List Bond) (stk : List ℕ) → Inv N c o k n t → clean (toks c o F n t) (st xs bs h n (hooks t) stk) ≡ true
  clean-kids leaf n h t xs bs stk v = refl
  clean-kids (node w j f g) n h t xs bs stk v =
      let u = rings c o n t in
      let t2 = after c o f (suc n) u in
      let v1 = inv-rings N c o k n t v in
      let e = end_hub f n (suc n) in
      let n2 = suc n + size f in
      let body = along j w ∷ (ring_toks c o n t ++ toks c o f (suc n) u) in
      let ys = (xs ++ (w ∷ [])) ++ pre f in
      let ds = (bs ++ (bond h n j ∷ [])) ++ (c n ++ done c o f n (suc n)) in
      clean-append (wrap g body) (toks c o g n2 t2) (st xs bs h n (hooks t) stk)
      (clean-wrap g body xs bs h n (hooks t) stk (λ stk. clean-body f n t (xs ++ (w ∷ [])) (bs ++ (bond h n j ∷ [])) stk v (λ xs bs. clean-kids f (suc n) n u xs bs stk v1)))
      (clean-on (toks c o g n2 t2) (run_tokens (wrap g body) (st xs bs h n (hooks t) stk)) (st ys ds (hub_after g h e) n2 (hooks t2) stk)
      (read-wrap N c o k g body xs ys bs ds h e n n2 (hooks t) (hooks t2) stk (λ stk. read-body N c o k f n t (xs ++ (w ∷ [])) (bs ++ (bond h n j ∷ [])) stk v (λ xs bs. read-kids N c o k f (suc n) n u xs bs stk v1)))
      (clean-kids g n2 (hub_after g h e) t2 ys ds stk (inv-after N c o k f (suc n) u v1)))

  clean-text : (F : Forest) (n h : ℕ) (t : List Slot) (xs : List ℕ) (bs : List Bond) → Inv N c o k n t → clean (text c o F n t) (st xs bs h n (hooks t) []) ≡ true
  clean-text leaf n h t xs bs v = refl
  clean-text (node w j f g) n h t xs bs v =
      let u = rings c o n t in
      let t2 = after c o f (suc n) u in
      let v1 = inv-rings N c o k n t v in
      let e = end_hub f n (suc n) in
      let n2 = suc n + size f in
      let body = ring_toks c o n t ++ toks c o f (suc n) u in
      let ys = (xs ++ (w ∷ [])) ++ pre f in
      let ds = bs ++ (c n ++ done c o f n (suc n)) in
      clean-append body (text c o g n2 t2) (st (xs ++ (w ∷ [])) bs n (suc n) (hooks t) [])
      (clean-body f n t (xs ++ (w ∷ [])) bs [] v (λ xs bs. clean-kids f (suc n) n u xs bs [] v1))
      (clean-on (text c o g n2 t2) (run_tokens body (st (xs ++ (w ∷ [])) bs n (suc n) (hooks t) [])) (st ys ds e n2 (hooks t2) [])
      (read-body N c o k f n t (xs ++ (w ∷ [])) bs [] v (λ xs bs. read-kids N c o k f (suc n) n u xs bs [] v1))
      (clean-text g n2 e t2 ys ds (inv-after N c o k f (suc n) u v1)))

clean-write : (n : ℕ) (pay : ℕ → ℕ) (bs : List Bond) → Inside n bs → clean (write n pay bs) start_tokens ≡ true
unfolding write
clean-write n pay bs i =
    let N = unused n bs in
    let k = back-of n N (inside-unused n bs i) in
    clean-text N (closing_bonds n N) (opening_bonds n N) k (relabel pay (forest_of n bs)) 0 0 [] [] [] (inv-start N (closing_bonds n N) (opening_bonds n N) k)

-- bonds and atoms only become more, so what holds of the state at the end held at each step
abbrev bonds_of : St → List Bond
bonds_of (st xs bs h n hs stk) = bs

abbrev next_of : St → ℕ
next_of (st xs bs h n hs stk) = n

abbrev depth_of : St → ℕ
depth_of (st xs bs h n hs stk) = length stk

grow-by : (p : Bond → Bool) (bs : List Bond) (b : Bond) → count p bs ≤ count p (bs ++ (b ∷ []))
grow-by p bs b = omega (arith, count-append p bs (b ∷ []))

step-bonds : (p : Bond → Bool) (t : Tok) (s : St) → count p (bonds_of s) ≤ count p (bonds_of (step_token t s))
step-bonds p (apart w) (st xs bs h n hs stk) = omega arith
step-bonds p (along k w) (st xs bs h n hs stk) = grow-by p bs (bond h n k)
step-bonds p (ring k m) (st xs bs h n hs stk) = go (closure_at hs m)
  where
    go : (x : Closure) → count p bs ≤ count p (bonds_of (bridge x k m xs bs h n hs stk))
    go vacant = omega arith
    go (at u j) = grow-by p bs (bond_between u h (meet j k))
step-bonds p branch (st xs bs h n hs stk) = omega arith
step-bonds p back (st xs bs h n hs []) = omega arith
step-bonds p back (st xs bs h n hs (g ∷ stk)) = omega arith

step-next : (t : Tok) (s : St) → next_of s ≤ next_of (step_token t s)
step-next (apart w) (st xs bs h n hs stk) = omega arith
step-next (along k w) (st xs bs h n hs stk) = omega arith
step-next (ring k m) (st xs bs h n hs stk) = go (closure_at hs m)
  where
    go : (x : Closure) → n ≤ next_of (bridge x k m xs bs h n hs stk)
    go vacant = omega arith
    go (at u j) = omega arith
step-next branch (st xs bs h n hs stk) = omega arith
step-next back (st xs bs h n hs []) = omega arith
step-next back (st xs bs h n hs (g ∷ stk)) = omega arith

run-bonds : (p : Bond → Bool) (ts : List Tok) (s : St) → count p (bonds_of s) ≤ count p (bonds_of (run_tokens ts s))
run-bonds p [] s = omega arith
run-bonds p (t ∷ ts) s = omega (arith, step-bonds p t s, run-bonds p ts (step_token t s))

run-next : (ts : List Tok) (s : St) → next_of s ≤ next_of (run_tokens ts s)
run-next [] s = omega arith
run-next (t ∷ ts) s = omega (arith, step-next t s, run-next ts (step_token t s))

abbrev loop : Bond → Bool
loop b = eqb b.lo b.hi

pub record Fits (am bm : ℕ) (s : St) : Type 0 where
  pub atoms : next_of s ≤ am
  pub few : count (λ b. true) (bonds_of s) ≤ bm
  pub distinct : Distinct (bonds_of s)
  pub proper : count loop (bonds_of s) ≡ 0

fits-before : (am bm : ℕ) (ts : List Tok) (s : St) → Fits am bm (run_tokens ts s) → Fits am bm s
fits-before am bm ts s f = record {
  atoms = omega (arith, f.atoms, run-next ts s);
  few = omega (arith, f.few, run-bonds (λ b. true) ts s);
  distinct = λ a c. omega (arith, f.distinct a c, run-bonds (ends a c) ts s);
  proper = omega (arith, f.proper, run-bonds loop ts s);
}

pub some-count : (p : Bond → Bool) (l : List Bond) → count p l ≡ 0 → some p l ≡ false
some-count p [] h = refl
some-count p (b ∷ l) h = go (p b) h (some-count p l)
  where
    go : (x : Bool) → bit x + count p l ≡ 0 → (count p l ≡ 0 → some p l ≡ false) → (x || some p l) ≡ false
    go true h f = absurd (omega arith)
    go false h f = f (omega arith)

pub length-count : (l : List Bond) → length l ≡ count (λ b. true) l
length-count [] = refl
length-count (b ∷ l) = omega (arith, length-count l)

module _ (am bm dm : ℕ) where
  room : (bs : List Bond) (b : Bond) → count (λ x. true) (bs ++ (b ∷ [])) ≤ bm → ltb (length bs) bm ≡ true
  room bs b h = lt-ltb (length bs) bm (omega (arith, length-count bs, count-append (λ x. true) bs (b ∷ [])))

  joined-kind : (u h k : ℕ) → ((bond_between u h k).lo ≡ (bond_between u h 0).lo) × ((bond_between u h k).hi ≡ (bond_between u h 0).hi)
  joined-kind u h k = go (ltb u h)
    where
      go : (x : Bool) → ((cond x (bond u h k) (bond h u (turned k))).lo ≡ (cond x (bond u h 0) (bond h u (turned 0))).lo) × ((cond x (bond u h k) (bond h u (turned k))).hi ≡ (cond x (bond u h 0) (bond h u (turned 0))).hi)
      go true = (refl, refl)
      go false = (refl, refl)

  not-loop : (bs : List Bond) (u h k : ℕ) → count loop (bs ++ (bond_between u h k ∷ [])) ≡ 0 → eqb u h ≡ false
  not-loop bs u h k z = go (eqb u h) refl
    where
      at_once : u ≡ h → (x : Bool) → loop (cond x (bond u h k) (bond h u (turned k))) ≡ true
      at_once e true = eq-eqb u h e
      at_once e false = eq-eqb h u (sym e)

      go : (x : Bool) → eqb u h ≡ x → x ≡ false
      go false e = refl
      go true e = absurd (omega (arith, count-append loop bs (bond_between u h k ∷ []), ap bit (at_once (eqb-true u h e) (ltb u h))))

  not-twice : (bs : List Bond) (u h k : ℕ) → Distinct (bs ++ (bond_between u h k ∷ [])) → some (ends (bond_between u h 0).lo (bond_between u h 0).hi) bs ≡ false
  not-twice bs u h k d =
      let a = (bond_between u h 0).lo in
      let c = (bond_between u h 0).hi in
      let e = joined-kind u h k in
      let t : ends a c (bond_between u h k) ≡ true = rw (eq-eqb (bond_between u h k).lo a e.0, eq-eqb (bond_between u h k).hi c e.1) in
      some-count (ends a c) bs (omega (arith, d a c, count-append (ends a c) bs (bond_between u h k ∷ []), ap bit t))

  no-bridge-refusal : (x : Closure) (k m : ℕ) (xs : List ℕ) (bs : List Bond) (h n : ℕ) (hs : List Closure) (stk : List ℕ) → Fits am bm (bridge x k m xs bs h n hs stk) → agrees x k ≡ true → refused_bridge am bm dm x k bs h ≡ 0
  no-bridge-refusal vacant k m xs bs h n hs stk f c = refl
  no-bridge-refusal (at u j) k m xs bs h n hs stk f c =
      rw (room bs (bond_between u h (meet j k)) f.few, not-loop bs u h (meet j k) f.proper, not-twice bs u h (meet j k) f.distinct) (go (clash j k) c)
    where
      go : (x : Bool) → not x ≡ true → ◌≡◌ {A = ℕ} (cond x 9 0) 0
      go true e = absurd (never false e refl)
      go false e = refl

  -- how many branches are open, and whether one more may open
  abbrev may_open : Tok → ℕ → Bool
  may_open (apart w) d = true
  may_open (along k w) d = true
  may_open (ring k m) d = true
  may_open branch d = ltb d dm
  may_open back d = true

  no-refusal : (t : Tok) (s : St) → Fits am bm (step_token t s) → clean_at t s ≡ true → may_open t (depth_of s) ≡ true → refusal am bm dm t s ≡ 0
  no-refusal (apart w) (st xs bs h n hs stk) f c d = let a = f.atoms in rw (lt-ltb n am (omega arith))
  no-refusal (along k w) (st xs bs h n hs stk) f c d = let a = f.atoms in rw (lt-ltb n am (omega arith), room bs (bond h n k) f.few)
  no-refusal (ring k m) (st xs bs h n hs stk) f c d = no-bridge-refusal (closure_at hs m) k m xs bs h n hs stk f c
  no-refusal branch (st xs bs h n hs stk) f c d = rw d
  no-refusal back s f c d = refl

  nests-step : (t : Tok) (ts : List Tok) (s : St) → nests dm (t ∷ ts) (depth_of s) ≡ true → (may_open t (depth_of s) ≡ true) × (nests dm ts (depth_of (step_token t s)) ≡ true)
  nests-step (apart w) ts (st xs bs h n hs stk) e = (refl, e)
  nests-step (along k w) ts (st xs bs h n hs stk) e = (refl, e)
  nests-step (ring k m) ts (st xs bs h n hs stk) e = (refl, go (closure_at hs m))
    where
      go : (x : Closure) → nests dm ts (depth_of (bridge x k m xs bs h n hs stk)) ≡ true
      go vacant = e
      go (at u j) = e
  nests-step branch ts (st xs bs h n hs stk) e = (and_left (ltb (length stk) dm) (nests dm ts (suc (length stk))) e, and_right (ltb (length stk) dm) (nests dm ts (suc (length stk))) e)
  nests-step back ts (st xs bs h n hs []) e = (refl, e)
  nests-step back ts (st xs bs h n hs (g ∷ stk)) e = (refl, e)

  reading-fine : (ts : List Tok) (s : St) → Fits am bm (run_tokens ts s) → clean ts s ≡ true → nests dm ts (depth_of s) ≡ true → reading am bm dm ts s ≡ fine (run_tokens ts s)
  reading-fine [] s f c d = refl
  reading-fine (t ∷ ts) s f c d =
      let q = nests-step t ts s d in
      let z : refusal am bm dm t s ≡ 0 = no-refusal t s (fits-before am bm ts (step_token t s) f) (and_left (clean_at t s) (clean ts (step_token t s)) c) q.0 in
      ap (λ (r : ℕ). or_number r (reading am bm dm ts (step_token t s))) z ∙ reading-fine ts (step_token t s) f (and_right (clean_at t s) (clean ts (step_token t s)) c) q.1

-- THE STATEMENT: within the limits, and if its branches nest no deeper, a written text is read without a refusal
pub read-written : (am bm dm n : ℕ) (pay : ℕ → ℕ) (bs : List Bond) → Inside n bs → Distinct bs → n ≤ am → length bs ≤ bm → nests dm (write n pay bs) 0 ≡ true
    → reading am bm dm (write n pay bs) start_tokens ≡ fine (run_tokens (write n pay bs) start_tokens)
unfolding renumbered
read-written am bm dm n pay bs i d a b e =
    let r = round_trip n pay bs i in
    let order = pre (forest_of n bs) in
    let M = map (renumber order) bs in
    let same : (p : Bond → Bool) → count p (completed n bs) ≡ count p M = r.bonds in
    let f : Fits am bm (st (map pay order) (completed n bs) r.hub n r.bridges []) = record {
      atoms = a;
      few = omega (arith, same (λ x. true), count_map (λ x. true) (renumber order) bs, length-count bs);
      distinct = λ x y. omega (arith, same (ends x y), distinct-map n order (renumbering n bs i).every bs i d x y);
      proper = nobody (λ x. true) loop (completed n bs) (all_map (λ x. (x.lo < x.hi) × (x.hi < n)) (λ x. loop x ≡ false) (λ x h. ne_eqb x.lo x.hi (omega arith)) (completed n bs) (completed-inside n bs i));
    } in
    reading-fine am bm dm (write n pay bs) start_tokens (subst (Fits am bm) (sym r.reads) f) (clean-write n pay bs i) e
