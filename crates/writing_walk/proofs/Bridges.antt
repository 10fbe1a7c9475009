-- The bridge numbers stay below a bound exactly if no more bridges are ever open at once. Assumes nothing.
use mathlib.Core.Path.{◌≡◌, refl, ap, ◌∙◌, subst}
use mathlib.Core.Bool.{Bool, true, false, cond}
use mathlib.Core.List.{List, [], ◌∷◌, ◌++◌}
use Prim.Native.Nat.{ℕ, zero, suc, ◌+◌, ◌≤◌, ◌<◌}
use native.Mathlib.Omega.{arith}
use lib.ListN.{length}
use lib.Dec.{eqb, ltb}
use borrow.Author.Tests.{eqb-true, eqb-false, ltb-true, ltb-false}
use Rattle.writing_walk.specs.Token.{Bond, eq_bond, Tok, apart, along, ring, branch, back}
use Rattle.writing_walk.specs.Emit.{Forest, leaf, node, size, Slot, free, held, lowest, insert, find, release, close_all, close_toks, open_all, open_toks, wrap, rings, ring_toks, after, toks, text}
use Rattle.writing_walk.specs.Walk.{forest_of, relabel, closing_bonds, opening_bonds, unused, write}
use Rattle.writing_walk.proofs.Count.{bit, count, All, none, more, all_append}
use Rattle.writing_walk.proofs.Read.{Back, Inv, open_of, pending, inv-rings, inv-after, open-count, closes-within, Within, first-in, close-within, insert-count}
use Rattle.writing_walk.proofs.Whole.{inv-start}
use Rattle.writing_walk.proofs.Walk.{Inside}
use Rattle.writing_walk.proofs.Trip.{back-of, inside-unused}

-- the place of a bridge token is below m
abbrev pub Low : ℕ → Tok → Type 0
Low m (apart w) = Unit {0}
Low m (along k w) = Unit {0}
Low m (ring k j) = j < m
Low m branch = Unit {0}
Low m back = Unit {0}

abbrev opened : List Slot → ℕ
opened t = count (λ b. true) (open_of t)

lowest-few : (t : List Slot) → lowest t ≤ opened t
lowest-few [] = omega arith
lowest-few (free ∷ t) = omega arith
lowest-few (held b ∷ t) = omega (arith, lowest-few t)

opened-length : (t : List Slot) → opened t ≤ length t
opened-length [] = omega arith
opened-length (free ∷ t) = omega (arith, opened-length t)
opened-length (held b ∷ t) = omega (arith, opened-length t)

pub insert-length : (m : ℕ) (b : Bond) (t : List Slot) → length t ≤ m → lowest t < m → length (insert b t) ≤ m
insert-length m b [] h g = omega arith
insert-length m b (free ∷ t) h g = h
insert-length zero b (held x ∷ t) h g = absurd (omega arith)
insert-length (suc m) b (held x ∷ t) h g = omega (arith, insert-length m b t (omega arith) (omega arith))

release_length : (b : Bond) (t : List Slot) → length (release b t) ≡ length t
release_length b [] = refl
release_length b (free ∷ t) = ap suc (release_length b t)
release_length b (held x ∷ t) = go (eq_bond b x) (release_length b t)
  where
    go : (e : Bool) → length (release b t) ≡ length t → length (cond e (free ∷ t) (held x ∷ release b t)) ≡ suc (length t)
    go true h = refl
    go false h = ap suc h

pub close-length : (c : List Bond) (t : List Slot) → length (close_all c t) ≡ length t
close-length [] t = refl
close-length (b ∷ c) t = close-length c (release b t) ∙ release_length b t

find-low : (b : Bond) (t : List Slot) → 0 < count (eq_bond b) (open_of t) → find b t < length t
find-low b [] h = absurd (omega arith)
find-low b (free ∷ t) h = omega (arith, find-low b t h)
find-low b (held x ∷ t) h = go (eq_bond b x) h (find-low b t)
  where
    go : (e : Bool) → 0 < bit e + count (eq_bond b) (open_of t) → (0 < count (eq_bond b) (open_of t) → find b t < length t) → cond e 0 (suc (find b t)) < suc (length t)
    go true h f = omega arith
    go false h f = omega (arith, f (omega arith))

pub all_left : {A : Type 0} (P : A → Type 0) (l m : List A) → All P (l ++ m) → All P l
all_left P [] m a = none
all_left P (x ∷ l) m (more h a) = more h (all_left P l m a)

pub all_right : {A : Type 0} (P : A → Type 0) (l m : List A) → All P (l ++ m) → All P m
all_right P [] m a = a
all_right P (x ∷ l) m (more h a) = all_right P l m a

pub close-low : (m : ℕ) (c : List Bond) (t : List Slot) → Within c (open_of t) → length t ≤ m → All (Low m) (close_toks c t)
close-low m [] t w h = none
close-low m (b ∷ c) t w h = more {b = ring 0 (find b t)} (let q = find-low b t (first-in b c (open_of t) w) in omega arith) (close-low m c (release b t) (close-within b c t w) (rw (release_length b t) h))

pub record Kept (m : ℕ) (ts : List Tok) (t : List Slot) : Type 0 where
  pub low : All (Low m) ts
  pub long : length t ≤ m

open-low : (m : ℕ) (o : List Bond) (t : List Slot) → length t ≤ m → opened t + count (λ b. true) o ≤ m → Kept m (open_toks o t) (open_all o t)
open-low m [] t h g = record { low = none; long = h }
open-low m (b ∷ o) t h g =
    let q = lowest-few t in
    let j : lowest t < m = omega arith in
    let r = open-low m o (insert b t) (insert-length m b t h j) (let i = insert-count (λ b. true) b t in omega arith) in
    record { low = more j r.low; long = r.long }

-- the other way round
open-long : (m : ℕ) (o : List Bond) (t : List Slot) → length t ≤ m → All (Low m) (open_toks o t) → length (open_all o t) ≤ m
open-long m [] t h a = h
open-long m (b ∷ o) t h (more j a) = open-long m o (insert b t) (insert-length m b t h j) a

wrap-low : (m : ℕ) (g : Forest) (x : List Tok) → All (Low m) x → All (Low m) (wrap g x)
wrap-low m leaf x a = a
wrap-low m (node w k f g) x a = more {b = branch} tt (all_append (Low m) x (back ∷ []) a (more {b = back} tt none))

unwrap-low : (m : ℕ) (g : Forest) (x : List Tok) → All (Low m) (wrap g x) → All (Low m) x
unwrap-low m leaf x a = a
unwrap-low m (node w k f g) x (more h a) = all_left (Low m) x (back ∷ []) a

module _ (N : List Bond) (c o : ℕ → List Bond) (k : Back N c o) (m : ℕ) where
  -- how many bridges are open when the atom n begins
  abbrev pub load : ℕ → ℕ
  load n = count (λ b. pending n b) N

  load-rings : (n : ℕ) (t : List Slot) → Inv N c o k n t → opened (rings c o n t) ≡ load (suc n)
  load-rings n t v = inv-rings N c o k n t v (λ b. true)

  rings-low : (n : ℕ) (t : List Slot) → Inv N c o k n t → length t ≤ m → load (suc n) ≤ m → Kept m (ring_toks c o n t) (rings c o n t)
  rings-low n t v h g =
      let w = closes-within N c o k n t v in
      let r = open-low m (o n) (close_all (c n) t) (rw (close-length (c n) t) h) (let q = open-count (o n) (close_all (c n) t) (λ b. true) in let s = load-rings n t v in omega arith) in
      record { low = all_append (Low m) (close_toks (c n) t) (open_toks (o n) (close_all (c n) t)) (close-low m (c n) t w h) r.low; long = r.long }

  rings-long : (n : ℕ) (t : List Slot) → length t ≤ m → All (Low m) (ring_toks c o n t) → length (rings c o n t) ≤ m
  rings-long n t h a = open-long m (o n) (close_all (c n) t) (rw (close-length (c n) t) h) (all_right (Low m) (close_toks (c n) t) (open_toks (o n) (close_all (c n) t)) a)

  kids-low : ((n : ℕ) → load n ≤ m) → (F : Forest) (n : ℕ) (t : List Slot) → Inv N c o k n t → length t ≤ m → Kept m (toks c o F n t) (after c o F n t)
  kids-low g leaf n t v h = record { low = none; long = h }
  kids-low l (node w j f g) n t v h =
      let r = rings-low n t v h (l (suc n)) in
      let u = rings c o n t in
      let v1 = inv-rings N c o k n t v in
      let a = kids-low l f (suc n) u v1 r.long in
      let b = kids-low l g (suc n + size f) (after c o f (suc n) u) (inv-after N c o k f (suc n) u v1) a.long in
      let body = ring_toks c o n t ++ toks c o f (suc n) u in
      record {
        low = all_append (Low m) (wrap g (along j w ∷ body)) (toks c o g (suc n + size f) (after c o f (suc n) u)) (wrap-low m g (along j w ∷ body) (more {b = along j w} tt (all_append (Low m) (ring_toks c o n t) (toks c o f (suc n) u) r.low a.low))) b.low;
        long = b.long;
      }

  text-low : ((n : ℕ) → load n ≤ m) → (F : Forest) (n : ℕ) (t : List Slot) → Inv N c o k n t → length t ≤ m → All (Low m) (text c o F n t)
  text-low l leaf n t v h = none
  text-low l (node w j f g) n t v h =
      let r = rings-low n t v h (l (suc n)) in
      let u = rings c o n t in
      let v1 = inv-rings N c o k n t v in
      let a = kids-low l f (suc n) u v1 r.long in
      more {b = apart w} tt (all_append (Low m) (ring_toks c o n t ++ toks c o f (suc n) u) (text c o g (suc n + size f) (after c o f (suc n) u)) (all_append (Low m) (ring_toks c o n t) (toks c o f (suc n) u) r.low a.low)
      (text-low l g (suc n + size f) (after c o f (suc n) u) (inv-after N c o k f (suc n) u v1) a.long))

  -- from tokens with low places: the loads from n to the end of the forest
  pub record Loads (F : Forest) (n : ℕ) (t : List Slot) : Type 0 where
    pub loads : (x : ℕ) → n ≤ x → x ≤ n + size F → load x ≤ m
    pub long : length (after c o F n t) ≤ m

  load_here : (n : ℕ) (t : List Slot) → Inv N c o k n t → length t ≤ m → load n ≤ m
  load_here n t v h = let q = v (λ b. true) in let s = opened-length t in omega arith

  join-loads : (w j : ℕ) (f g : Forest) (n : ℕ) (t : List Slot) → load n ≤ m → Loads f (suc n) (rings c o n t) → Loads g (suc n + size f) (after c o f (suc n) (rings c o n t)) → Loads (node w j f g) n t
  join-loads w j f g n t h a b = record { loads = λ x p q. go x p q (eqb n x) refl (ltb x (suc n + size f)) refl; long = b.long }
    where
      go : (x : ℕ) → n ≤ x → x ≤ n + suc (size f + size g) → (y : Bool) → eqb n x ≡ y → (z : Bool) → ltb x (suc n + size f) ≡ z → load x ≤ m
      go x p q true y z e = subst (λ (i : ℕ). load i ≤ m) (eqb-true n x y) h
      go x p q false y true e = let i = eqb-false n x y in let l = ltb-true x (suc n + size f) e in a.loads x (omega arith) (omega arith)
      go x p q false y false e = let l = ltb-false x (suc n + size f) e in b.loads x (omega arith) (omega arith)

  end-loads : (n : ℕ) (t : List Slot) → load n ≤ m → length t ≤ m → Loads leaf n t
  end-loads n t h g = record { loads = λ x p q. (let e : n ≡ x = omega arith in subst (λ (i : ℕ). load i ≤ m) e h); long = g }

  kids-loads : (F : Forest) (n : ℕ) (t : List Slot) → Inv N c o k n t → length t ≤ m → All (Low m) (toks c o F n t) → Loads F n t
  kids-loads leaf n t v h a = end-loads n t (load_here n t v h) h
  kids-loads (node w j f g) n t v h a =
      let u = rings c o n t in
      let v1 = inv-rings N c o k n t v in
      let t2 = after c o f (suc n) u in
      let body = ring_toks c o n t ++ toks c o f (suc n) u in
      let rest = toks c o g (suc n + size f) t2 in
      let ab = all_right (Low m) (along j w ∷ []) body (unwrap-low m g (along j w ∷ body) (all_left (Low m) (wrap g (along j w ∷ body)) rest a)) in
      let lf = kids-loads f (suc n) u v1 (rings-long n t h (all_left (Low m) (ring_toks c o n t) (toks c o f (suc n) u) ab)) (all_right (Low m) (ring_toks c o n t) (toks c o f (suc n) u) ab) in
      join-loads w j f g n t (load_here n t v h) lf (kids-loads g (suc n + size f) t2 (inv-after N c o k f (suc n) u v1) lf.long (all_right (Low m) (wrap g (along j w ∷ body)) rest a))

  text-loads : (F : Forest) (n : ℕ) (t : List Slot) → Inv N c o k n t → length t ≤ m → All (Low m) (text c o F n t) → Loads F n t
  text-loads leaf n t v h a = end-loads n t (load_here n t v h) h
  text-loads (node w j f g) n t v h (more _ a) =
      let u = rings c o n t in
      let v1 = inv-rings N c o k n t v in
      let t2 = after c o f (suc n) u in
      let body = ring_toks c o n t ++ toks c o f (suc n) u in
      let rest = text c o g (suc n + size f) t2 in
      let ab = all_left (Low m) body rest a in
      let lf = kids-loads f (suc n) u v1 (rings-long n t h (all_left (Low m) (ring_toks c o n t) (toks c o f (suc n) u) ab)) (all_right (Low m) (ring_toks c o n t) (toks c o f (suc n) u) ab) in
      join-loads w j f g n t (load_here n t v h) lf (text-loads g (suc n + size f) t2 (inv-after N c o k f (suc n) u v1) lf.long (all_right (Low m) body rest a))

-- THE STATEMENTS: every place is below m exactly if at no atom more than m of the unused bonds are open
pub low-places : (m n : ℕ) (pay : ℕ → ℕ) (bs : List Bond) → Inside n bs → ((x : ℕ) → count (pending x) (unused n bs) ≤ m) → All (Low m) (write n pay bs)
unfolding write
low-places m n pay bs i l =
    let N = unused n bs in
    let k = back-of n N (inside-unused n bs i) in
    text-low N (closing_bonds n N) (opening_bonds n N) k m l (relabel pay (forest_of n bs)) 0 [] (inv-start N (closing_bonds n N) (opening_bonds n N) k) (omega arith)

pub places-low : (m n : ℕ) (pay : ℕ → ℕ) (bs : List Bond) → Inside n bs → All (Low m) (write n pay bs) → (x : ℕ) → x ≤ size (relabel pay (forest_of n bs)) → count (pending x) (unused n bs) ≤ m
unfolding write
places-low m n pay bs i a x h =
    let N = unused n bs in
    let k = back-of n N (inside-unused n bs i) in
    (text-loads N (closing_bonds n N) (opening_bonds n N) k m (relabel pay (forest_of n bs)) 0 [] (inv-start N (closing_bonds n N) (opening_bonds n N) k) (omega arith) a).loads x (omega arith) (omega arith)
