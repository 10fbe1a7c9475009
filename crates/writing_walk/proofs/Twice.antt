-- Writing what was read from a written text gives the same tokens. Assumes nothing.
use mathlib.Core.Path.{◌≡◌, refl, sym, ap, ◌∙◌, fun_ext}
use mathlib.Core.Bool.{Bool, true, false, ◌&&◌, cond}
use mathlib.Core.List.{List, [], ◌∷◌, ◌++◌, map, append_assoc, append-nil}
use Prim.Native.Nat.{ℕ, zero, suc, ◌+◌, ◌≤◌, ◌<◌}
use native.Mathlib.Omega.{arith}
use native.Mathlib.Nat.{zero-add}
use lib.Dec.{eqb, ltb}
use lib.ListN.{length, length-append, get_or}
use borrow.Author.Tests.{eq-eqb, eqb-true, eqb-false, lt-ltb}
use Rattle.kinds.specs.Kind.{turned}
use Rattle.writing_walk.specs.Token.{Bond, bond, eq_bond, Tok}
use Rattle.writing_walk.specs.Reading.{St, st, run_tokens, start_tokens}
use Rattle.writing_walk.specs.Emit.{Forest, leaf, node, size, pre, text, done, done_all, tree, trees}
use Rattle.writing_walk.specs.Walk.{forest_of, place, renumber, remove_all, keep, sweep, closing_bonds, opening_bonds, relabel, renumbered, unused, write}
use Rattle.writing_walk.specs.Check.{ends}
use Rattle.writing_walk.proofs.Count.{bit, count, and_left, and_right, bond-same, bond-eq, All, none, more, all_map}
use Rattle.writing_walk.proofs.Read.{Back}
use Rattle.writing_walk.proofs.Walk.{times, range, Inside, forest-dfs, dfs-same}
use Rattle.writing_walk.proofs.Trip.{place-inj, size-length, keep-count, remove-all, all-remove_all, back-of, renumbering, within, inside-unused, completed, round_trip}
use Rattle.writing_walk.proofs.Again.{number, size_number, pre-number, Deep, deep-part, dfs-deep, dfs-plain, roots-plain, roots-dfs, closes-inside, done-inside, inside-mono, inside-append}

done_all-inside : (N : List Bond) (c o : ℕ → List Bond) (k : Back N c o) (G : Forest) (m : ℕ) → Inside (m + size G) (done_all c o G m)
done_all-inside N c o k leaf m = none
done_all-inside N c o k (node u j f g) m =
    let e : m + suc (size f + size g) ≡ suc m + size f + size g = omega arith in
    rw e (inside-append N c o k (suc m + size f + size g) (c m) (done c o f m (suc m) ++ done_all c o g (suc m + size f)) (inside-mono (suc m) (suc m + size f + size g) (omega arith) (c m) (closes-inside N c o k m))
    (inside-append N c o k (suc m + size f + size g) (done c o f m (suc m)) (done_all c o g (suc m + size f)) (inside-mono (suc m + size f) (suc m + size f + size g) (omega arith) (done c o f m (suc m)) (done-inside N c o k f m (suc m) (omega arith))) (done_all-inside N c o k g (suc m + size f))))

all-size : (n : ℕ) (bs : List Bond) → Inside n bs → size (forest_of n bs) ≡ n
all-size n bs i = sym (size-length (forest_of n bs)) ∙ (renumbering n bs i).long

pub completed-inside : (n : ℕ) (bs : List Bond) → Inside n bs → Inside n (completed n bs)
unfolding completed
completed-inside n bs i =
    let N = unused n bs in
    let e : 0 + size (forest_of n bs) ≡ n = zero-add (size (forest_of n bs)) ∙ all-size n bs i in
    rw e at (done_all-inside N (closing_bonds n N) (opening_bonds n N) (back-of n N (inside-unused n bs i)) (forest_of n bs) 0)

deep-forest : (n : ℕ) (bs : List Bond) → Inside n bs → Deep (unused n bs) (forest_of n bs) 0
unfolding unused renumbered
deep-forest n bs i =
    let F = forest_of n bs in
    let M = map (renumber (pre F)) bs in
    deep-part (remove_all (trees F 0) M) M (λ P a. all-remove_all P (trees F 0) M a) F 0
    (dfs-deep n (pre F) bs i (renumbering n bs i).once (renumbering n bs i).every (forest-dfs n bs i) [] (sym (append-nil (pre F))) 0 refl)

-- THE WALK AGAIN: over the bonds that were read it finds the same forest, numbered in preorder
pub forest-again : (n : ℕ) (bs : List Bond) → Inside n bs → forest_of n (completed n bs) ≡ number (forest_of n bs) 0
unfolding completed
forest-again n bs i =
    let F = forest_of n bs in
    let N = unused n bs in
    let k = back-of n N (inside-unused n bs i) in
    let s = all-size n bs i in
    dfs-same (completed n bs) (forest-dfs n (completed n bs) (completed-inside n bs i))
    (roots-dfs N (closing_bonds n N) (opening_bonds n N) k (completed n bs) n 0 F 0 (deep-forest n bs i) (dfs-plain bs (forest-dfs n bs i) (roots-plain 0 n)) (omega arith) (omega arith) [] refl none)

-- the renumbering is the identity
pub order-again : (n : ℕ) (bs : List Bond) → Inside n bs → pre (forest_of n (completed n bs)) ≡ range 0 n
order-again n bs i = ap pre (forest-again n bs i) ∙ pre-number (forest_of n bs) 0 ∙ ap (range 0) (all-size n bs i)

place-range : (a d v : ℕ) → a ≤ v → v < a + d → place (range a d) v + a ≡ v
place-range a zero v h g = absurd (omega arith)
place-range a (suc d) v h g = go (eqb v a) refl (place-range (suc a) d v)
  where
    go : (y : Bool) → eqb v a ≡ y → (suc a ≤ v → v < suc a + d → place (range (suc a) d) v + suc a ≡ v) → cond y 0 (suc (place (range (suc a) d) v)) + a ≡ v
    go true y f = let z = eqb-true v a y in omega arith
    go false y f = let z = eqb-false v a y in let r = f (omega arith) (omega arith) in omega arith

pub place_same : (n v : ℕ) → v < n → place (range 0 n) v ≡ v
place_same n v h = let r = place-range 0 n v (omega arith) (omega arith) in omega arith

renumber-same : (n : ℕ) (l : List Bond) → Inside n l → map (renumber (range 0 n)) l ≡ l
renumber-same n [] none = refl
renumber-same n (b ∷ l) (more h a) = λ i. one i ∷ renumber-same n l a i
  where
    one : renumber (range 0 n) b ≡ b
    one = rw (place_same n b.lo (omega arith), place_same n b.hi h.1, lt-ltb b.lo b.hi h.0)

tree-number : (F : Forest) (m h n : ℕ) → tree (number F m) h n ≡ tree F h n
tree-number leaf m h n = refl
tree-number (node w k f g) m h n = rw (size_number f (suc m), tree-number f (suc m) n (suc n), tree-number g (suc m + size f) h (suc n + size f))

trees-number : (F : Forest) (m n : ℕ) → trees (number F m) n ≡ trees F n
trees-number leaf m n = refl
trees-number (node w k f g) m n = rw (size_number f (suc m), tree-number f (suc m) n (suc n), trees-number g (suc m + size f) (suc n + size f))

pub renumbered-again : (n : ℕ) (bs : List Bond) → Inside n bs → renumbered n (completed n bs) ≡ completed n bs
unfolding renumbered
renumbered-again n bs i = rw (order-again n bs i) (renumber-same n (completed n bs) (completed-inside n bs i))

unused-again : (n : ℕ) (bs : List Bond) → Inside n bs → unused n (completed n bs) ≡ remove_all (trees (forest_of n bs) 0) (completed n bs)
unfolding unused
unused-again n bs i = rw (renumbered-again n bs i, forest-again n bs i, trees-number (forest_of n bs) 0 0)

-- the same bonds are left over
same-unused : (n : ℕ) (bs : List Bond) → Inside n bs → (p : Bond → Bool) → count p (unused n (completed n bs)) ≡ count p (unused n bs)
unfolding unused
same-unused n bs i p =
    let T = trees (forest_of n bs) 0 in
    let r = round_trip n (λ v. v) bs i in
    let w : (b : Bond) → count (eq_bond b) T ≤ count (eq_bond b) (completed n bs) = λ b. (let u = r.bonds (eq_bond b) in let v = within n bs i b in omega arith) in
    ap (count p) (unused-again n bs i) ∙ omega (arith, remove-all T (completed n bs) w p, remove-all T (renumbered n bs) (within n bs i) p, r.bonds p)

-- no two bonds join the same two atoms
abbrev pub Distinct : List Bond → Type 0
Distinct bs = (a c : ℕ) → count (ends a c) bs ≤ 1

pub record Found (p : Bond → Bool) (P : Bond → Type 0) : Type 0 where
  pub it : Bond
  pub passes : p it ≡ true
  pub has : P it

found : (p : Bond → Bool) (P : Bond → Type 0) (l : List Bond) → All P l → 0 < count p l → Found p P
found p P [] none h = absurd (omega arith)
found p P (b ∷ l) (more g a) h = go (p b) refl h (found p P l a)
  where
    go : (x : Bool) → p b ≡ x → 0 < bit x + count p l → (0 < count p l → Found p P) → Found p P
    go true e h f = record { it = b; passes = e; has = g }
    go false e h f = f (omega arith)

pub count_less : (p q : Bond → Bool) (l : List Bond) → All (λ b. bit (p b) ≤ bit (q b)) l → count p l ≤ count q l
count_less p q [] none = omega arith
count_less p q (b ∷ l) (more h a) = omega (arith, count_less p q l a)

pub count_map : (p : Bond → Bool) (f : Bond → Bond) (l : List Bond) → count p (map f l) ≡ count (λ b. p (f b)) l
count_map p f [] = refl
count_map p f (b ∷ l) = omega (arith, count_map p f l)

module _ (n : ℕ) (order : List ℕ) (all : (v : ℕ) → v < n → 0 < times v order) where
  abbrev In : Bond → Type 0
  In b = (b.lo < b.hi) × (b.hi < n)

  same_ends_lem : (b b0 : Bond) → In b → In b0 → (renumber order b).lo ≡ (renumber order b0).lo → (renumber order b).hi ≡ (renumber order b0).hi → (b.lo ≡ b0.lo) × (b.hi ≡ b0.hi)
  same_ends_lem b b0 h g = go (ltb (place order b.lo) (place order b.hi)) (ltb (place order b0.lo) (place order b0.hi))
    where
      t1 : 0 < times b.lo order
      t1 = all b.lo (omega arith)

      t2 : 0 < times b.hi order
      t2 = all b.hi (omega arith)

      t3 : 0 < times b0.lo order
      t3 = all b0.lo (omega arith)

      t4 : 0 < times b0.hi order
      t4 = all b0.hi (omega arith)

      pick : Bool → Bond → Bond
      pick x b = cond x (bond (place order b.lo) (place order b.hi) b.kind) (bond (place order b.hi) (place order b.lo) (turned b.kind))

      go : (x y : Bool) → (pick x b).lo ≡ (pick y b0).lo → (pick x b).hi ≡ (pick y b0).hi → (b.lo ≡ b0.lo) × (b.hi ≡ b0.hi)
      go true true p q = (place-inj b.lo b0.lo order t1 t3 p, place-inj b.hi b0.hi order t2 t4 q)
      go false false p q = (place-inj b.lo b0.lo order t1 t3 q, place-inj b.hi b0.hi order t2 t4 p)
      go true false p q = absurd (let u = place-inj b.lo b0.hi order t1 t4 p in let v = place-inj b.hi b0.lo order t2 t3 q in omega arith)
      go false true p q = absurd (let u = place-inj b.hi b0.lo order t2 t3 p in let v = place-inj b.lo b0.hi order t1 t4 q in omega arith)

  pub distinct-map : (bs : List Bond) → Inside n bs → Distinct bs → Distinct (map (renumber order) bs)
  distinct-map bs i d a c = rw (count_map (ends a c) (renumber order) bs) (go (count (λ b. ends a c (renumber order b)) bs) refl)
    where
      less : (b0 : Bond) → In b0 → ends a c (renumber order b0) ≡ true → (b : Bond) → In b → bit (ends a c (renumber order b)) ≤ bit (ends b0.lo b0.hi b)
      less b0 h0 e0 b h = two (ends a c (renumber order b)) refl
        where
          two : (x : Bool) → ends a c (renumber order b) ≡ x → bit x ≤ bit (ends b0.lo b0.hi b)
          two false e = omega arith
          two true e =
              let s = same_ends_lem b b0 h h0
              (eqb-true (renumber order b).lo a (and_left (eqb (renumber order b).lo a) (eqb (renumber order b).hi c) e) ∙ sym (eqb-true (renumber order b0).lo a (and_left (eqb (renumber order b0).lo a) (eqb (renumber order b0).hi c) e0)))
              (eqb-true (renumber order b).hi c (and_right (eqb (renumber order b).lo a) (eqb (renumber order b).hi c) e) ∙ sym (eqb-true (renumber order b0).hi c (and_right (eqb (renumber order b0).lo a) (eqb (renumber order b0).hi c) e0))) in
              rw (eq-eqb b.lo b0.lo s.0, eq-eqb b.hi b0.hi s.1) (omega arith)

      go : (m : ℕ) → count (λ b. ends a c (renumber order b)) bs ≡ m → m ≤ 1
      go zero e = omega arith
      go (suc m) e =
          let f = found (λ b. ends a c (renumber order b)) In bs i (omega arith) in
          let b0 = f.it in
          let q = count_less (λ b. ends a c (renumber order b)) (ends b0.lo b0.hi) bs (all_map In (λ b. bit (ends a c (renumber order b)) ≤ bit (ends b0.lo b0.hi b)) (less b0 f.has f.passes) bs i) in
          let r = d b0.lo b0.hi in
          omega arith

pub distinct-unused : (n : ℕ) (bs : List Bond) → Inside n bs → Distinct bs → Distinct (unused n bs)
unfolding unused renumbered
distinct-unused n bs i d a c =
    let M = map (renumber (pre (forest_of n bs))) bs in
    let w : (b : Bond) → count (eq_bond b) (trees (forest_of n bs) 0) ≤ count (eq_bond b) M = within n bs i in
    omega (arith, distinct-map n (pre (forest_of n bs)) (renumbering n bs i).every bs i d a c, remove-all (trees (forest_of n bs) 0) M w (ends a c))

-- two lists with the same bonds, at most one: they are equal
abbrev Alike : List Bond → List Bond → Type 0
Alike l m = (p : Bond → Bool) → count p l ≡ count p m

one-bond : (l m : List Bond) → Alike l m → count (λ b. true) l ≤ 1 → l ≡ m
one-bond [] [] h s = refl
one-bond [] (y ∷ m) h s = absurd (let z = h (λ b. true) in omega arith)
one-bond (x ∷ l) [] h s = absurd (let z = h (λ b. true) in omega arith)
one-bond (x ∷ []) (y ∷ []) h s = go (eq_bond x y) refl
  where
    go : (e : Bool) → eq_bond x y ≡ e → (x ∷ []) ≡ (y ∷ [])
    go true e = ap (λ (b : Bond). b ∷ []) (bond-eq x y e)
    go false e = absurd (omega (arith, h (eq_bond x), ap bit (bond-same x), ap bit e))
one-bond (x ∷ []) (y ∷ y' ∷ m) h s = absurd (let z = h (λ b. true) in omega arith)
one-bond (x ∷ x' ∷ l) (y ∷ m) h s = absurd (omega arith)

alike-keep : (q : Bond → Bool) (l m : List Bond) → Alike l m → Alike (keep q l) (keep q m)
alike-keep q l m h p = keep-count p q l ∙ h (λ b. p b && q b) ∙ sym (keep-count p q m)

sweep-same : (key : Bond → ℕ) (l m : List Bond) → Alike l m → ((a : ℕ) → count (λ b. eqb (key b) a) l ≤ 1) → (a d : ℕ) → sweep key l a d ≡ sweep key m a d
sweep-same key l m h s a zero = refl
sweep-same key l m h s a (suc d) = λ i. one i ++ sweep-same key l m h s (suc a) d i
  where
    one : keep (λ b. eqb (key b) a) l ≡ keep (λ b. eqb (key b) a) m
    one = one-bond (keep (λ b. eqb (key b) a) l) (keep (λ b. eqb (key b) a) m) (alike-keep (λ b. eqb (key b) a) l m h) (let z = keep-count (λ b. true) (λ b. eqb (key b) a) l in let y = s a in omega arith)

pub and-turn : (p q : Bond → Bool) (l : List Bond) → count (λ b. p b && q b) l ≡ count (λ b. q b && p b) l
and-turn p q [] = refl
and-turn p q (b ∷ l) = omega (arith, go (p b) (q b), and-turn p q l)
  where
    go : (x y : Bool) → bit (x && y) ≡ bit (y && x)
    go true true = refl
    go true false = refl
    go false true = refl
    go false false = refl

closing_same : (n : ℕ) (N M : List Bond) → Alike N M → Distinct N → closing_bonds n N ≡ closing_bonds n M
closing_same n N M h d = fun_ext (λ m. sweep-same (λ b. b.lo) (keep (λ b. eqb b.hi m) N) (keep (λ b. eqb b.hi m) M) (alike-keep (λ b. eqb b.hi m) N M h)
    (λ a. let z = keep-count (λ b. eqb b.lo a) (λ b. eqb b.hi m) N in let y = d a m in omega arith) 0 n)

opening-same : (n : ℕ) (N M : List Bond) → Alike N M → Distinct N → opening_bonds n N ≡ opening_bonds n M
opening-same n N M h d = fun_ext (λ m. sweep-same (λ b. b.hi) (keep (λ b. eqb b.lo m) N) (keep (λ b. eqb b.lo m) M) (alike-keep (λ b. eqb b.lo m) N M h)
    (λ a. let z = keep-count (λ b. eqb b.hi a) (λ b. eqb b.lo m) N in let y = d m a in let x = and-turn (λ b. eqb b.hi a) (λ b. eqb b.lo m) N in omega arith) 0 n)

-- the payloads that were read, by number
get_d_at : (a : List ℕ) (x : ℕ) (z : List ℕ) → get_or (a ++ (x ∷ z)) (length a) 0 ≡ x
get_d_at [] x z = refl
get_d_at (y ∷ a) x z = get_d_at a x z

map-append : (pay : ℕ → ℕ) (a b : List ℕ) → map pay (a ++ b) ≡ map pay a ++ map pay b
map-append pay [] b = refl
map-append pay (x ∷ a) b = ap (λ (l : List ℕ). pay x ∷ l) (map-append pay a b)

length-map : (pay : ℕ → ℕ) (a : List ℕ) → length (map pay a) ≡ length a
length-map pay [] = refl
length-map pay (x ∷ a) = ap suc (length-map pay a)

relabel-number : (pay : ℕ → ℕ) (L : List ℕ) (F : Forest) (m : ℕ) (a z : List ℕ) → L ≡ a ++ (map pay (pre F) ++ z) → length a ≡ m → relabel (λ v. get_or L v 0) (number F m) ≡ relabel pay F
relabel-number pay L leaf m a z e l = refl
relabel-number pay L (node w k f g) m a z e l =
    let e0 : L ≡ a ++ (pay w ∷ (map pay (pre f ++ pre g) ++ z)) = e in
    let e1 : L ≡ (a ++ (pay w ∷ [])) ++ (map pay (pre f) ++ (map pay (pre g) ++ z)) = e ∙ simp (map-append, append_assoc) in
    let e2 : L ≡ ((a ++ (pay w ∷ [])) ++ map pay (pre f)) ++ (map pay (pre g) ++ z) = e ∙ simp (map-append, append_assoc) in
    let l1 : length (a ++ (pay w ∷ [])) ≡ suc m = length-append a (pay w ∷ []) ∙ omega arith in
    let l2 : length ((a ++ (pay w ∷ [])) ++ map pay (pre f)) ≡ suc m + size f = length-append (a ++ (pay w ∷ [])) (map pay (pre f)) ∙ (λ i. l1 i + (length-map pay (pre f) ∙ size-length f) i) in
    let h : get_or L m 0 ≡ pay w = (λ i. get_or (e0 i) (sym l i) 0) ∙ get_d_at a (pay w) (map pay (pre f ++ pre g) ++ z) in
    λ i. node (h i) k (relabel-number pay L f (suc m) (a ++ (pay w ∷ [])) (map pay (pre g) ++ z) e1 l1 i) (relabel-number pay L g (suc m + size f) ((a ++ (pay w ∷ [])) ++ map pay (pre f)) z e2 l2 i)

-- THE STATEMENT: writing the molecule that was read from a written text gives the same tokens
pub write_again : (n : ℕ) (pay : ℕ → ℕ) (bs : List Bond) → Inside n bs → Distinct bs → write n (λ v. get_or (map pay (pre (forest_of n bs))) v 0) (completed n bs) ≡ write n pay bs
unfolding write
write_again n pay bs i d =
    let F = forest_of n bs in
    let L = map pay (pre F) in
    let N = unused n bs in
    let N2 = unused n (completed n bs) in
    let c : closing_bonds n N2 ≡ closing_bonds n N = sym (closing_same n N N2 (λ p. sym (same-unused n bs i p)) (distinct-unused n bs i d)) in
    let o : opening_bonds n N2 ≡ opening_bonds n N = sym (opening-same n N N2 (λ p. sym (same-unused n bs i p)) (distinct-unused n bs i d)) in
    let r : relabel (λ v. get_or L v 0) (forest_of n (completed n bs)) ≡ relabel pay F = ap (relabel (λ v. get_or L v 0)) (forest-again n bs i) ∙ relabel-number pay L F 0 [] [] (sym (append-nil L)) refl in
    λ j. text (c j) (o j) (r j) 0 []

abbrev pub atoms_of : St → List ℕ
atoms_of (st xs bs h n hs stk) = xs

abbrev pub bonds_of : St → List Bond
bonds_of (st xs bs h n hs stk) = bs

abbrev pub count_of : St → ℕ
count_of (st xs bs h n hs stk) = n

-- write what a state holds
abbrev pub rewrite : St → List Tok
rewrite s = write (count_of s) (λ v. get_or (atoms_of s) v 0) (bonds_of s)

-- THE SAME, said of the state: reading a written text and writing what was read gives the text
pub write-read-write : (n : ℕ) (pay : ℕ → ℕ) (bs : List Bond) → Inside n bs → Distinct bs → rewrite (run_tokens (write n pay bs) start_tokens) ≡ write n pay bs
write-read-write n pay bs i d = ap rewrite (round_trip n pay bs i).reads ∙ write_again n pay bs i d
