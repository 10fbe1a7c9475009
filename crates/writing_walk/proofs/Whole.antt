-- The whole text of a forest with further bonds, read: every bond once, nothing left open. Assumes nothing.
use mathlib.Core.Path.{◌≡◌, refl, sym, ap, ◌∙◌}
use mathlib.Core.Bool.{Bool, true, false, ◌&&◌}
use mathlib.Core.List.{List, [], ◌∷◌, ◌++◌}
use Prim.Native.Nat.{ℕ, suc, ◌+◌, ◌<◌}
use native.Mathlib.Omega.{arith}
use native.Mathlib.Nat.{zero-add}
use lib.Dec.{eqb, ltb}
use borrow.Author.Tests.{eqb-true, eqb-false, lt-ltb, ltb-true, ltb-false, lt-leb, le-ltb}
use Rattle.writing_walk.specs.Token.{Bond}
use Rattle.writing_walk.specs.Reading.{Closure, st, run_tokens, shut, start_tokens}
use Rattle.writing_walk.specs.Emit.{Forest, leaf, node, size, pre, Slot, free, held, after, text, done, done_all, last_hub, tree, trees}
use Rattle.writing_walk.proofs.Count.{bit, count, count-append, All, none, more, all_map, nobody}
use Rattle.writing_walk.proofs.Read.{Back, Inv, hooks, open_of, pending, inv-after, read-text}

-- the bonds that are closed before the atom n begins
abbrev before : ℕ → Bond → Bool
before n b = ltb b.hi n

pub before-suc : (h n : ℕ) → bit (ltb h (suc n)) ≡ bit (ltb h n) + bit (eqb h n)
before-suc h n = go (ltb h n) refl (eqb h n) refl
  where
    go : (x : Bool) → ltb h n ≡ x → (y : Bool) → eqb h n ≡ y → bit (ltb h (suc n)) ≡ bit x + bit y
    go true e true f = absurd (omega (arith, ltb-true h n e, eqb-true h n f))
    go true e false f = let q = ltb-true h n e in rw (lt-ltb h (suc n) (omega arith))
    go false e true f = let q = eqb-true h n f in rw (lt-ltb h (suc n) (omega arith))
    go false e false f = let q = ltb-false h n e in let r = eqb-false h n f in rw (le-ltb h (suc n) (omega arith))

pub and-sum : (p x y z : Bool) → bit x ≡ bit y + bit z → bit (p && x) ≡ bit (p && y) + bit (p && z)
and-sum true x y z h = h
and-sum false x y z h = refl

count-suc : (p : Bond → Bool) (n : ℕ) (N : List Bond) → count (λ b. p b && before (suc n) b) N ≡ count (λ b. p b && before n b) N + count (λ b. p b && eqb b.hi n) N
count-suc p n [] = refl
count-suc p n (b ∷ N) = omega (arith, and-sum (p b) (before (suc n) b) (before n b) (eqb b.hi n) (before-suc b.hi n), count-suc p n N)

shut-of : (t : List Slot) → count (λ b. true) (open_of t) ≡ 0 → shut (hooks t) ≡ true
shut-of [] h = refl
shut-of (free ∷ t) h = shut-of t h
shut-of (held b ∷ t) h = absurd (omega arith)

pub and-true : (p : Bool) → (p && true) ≡ p
and-true true = refl
and-true false = refl

pub and-false : (p : Bool) → (p && false) ≡ false
and-false true = refl
and-false false = refl

pub count-all : (p q : Bond → Bool) (N : List Bond) → All (λ b. q b ≡ true) N → count (λ b. p b && q b) N ≡ count p N
count-all p q [] none = refl
count-all p q (b ∷ N) (more h a) = let e : (p b && q b) ≡ p b = rw h (and-true (p b)) in omega (arith, ap bit e, count-all p q N a)

module _ (N : List Bond) (c o : ℕ → List Bond) (k : Back N c o) where
  done-count : (p : Bond → Bool) (F : Forest) (h n : ℕ) → count p (done c o F h n) + count (λ b. p b && before n b) N ≡ count p (tree F h n) + count (λ b. p b && before (n + size F) b) N
  done-count p leaf h n = let e : n + 0 ≡ n = omega arith in rw e
  done-count p (node w j f g) h n =
      let e : n + suc (size f + size g) ≡ suc n + size f + size g = omega arith in
      rw e (omega (
        arith,
        count-append p (c n) (done c o f n (suc n) ++ done c o g h (suc n + size f)),
        count-append p (done c o f n (suc n)) (done c o g h (suc n + size f)),
        count-append p (tree f n (suc n)) (tree g h (suc n + size f)),
        done-count p f n (suc n),
        done-count p g h (suc n + size f),
        count-suc p n N,
        k.closes n p,
      ))

  done_all-count : (p : Bond → Bool) (F : Forest) (n : ℕ) → count p (done_all c o F n) + count (λ b. p b && before n b) N ≡ count p (trees F n) + count (λ b. p b && before (n + size F) b) N
  done_all-count p leaf n = let e : n + 0 ≡ n = omega arith in rw e
  done_all-count p (node w j f g) n =
      let e : n + suc (size f + size g) ≡ suc n + size f + size g = omega arith in
      rw e (omega (
        arith,
        count-append p (c n) (done c o f n (suc n) ++ done_all c o g (suc n + size f)),
        count-append p (done c o f n (suc n)) (done_all c o g (suc n + size f)),
        count-append p (tree f n (suc n)) (trees g (suc n + size f)),
        done-count p f n (suc n),
        done_all-count p g (suc n + size f),
        count-suc p n N,
        k.closes n p,
      ))

  pub inv-start : Inv N c o k 0 []
  inv-start p = sym (nobody p (pending 0) N (all_map (λ b. b.lo < b.hi) (λ b. (p b && pending 0 b) ≡ false) (λ b h. rw (le-ltb b.lo 0 (omega arith)) (and-false (p b))) N k.ordered))

  -- THE STATEMENT for any forest and any further bonds between its atoms
  pub record Readback (F : Forest) : Type 0 where
    pub hub : ℕ
    pub bridges : List Closure
    pub reads : run_tokens (text c o F 0 []) start_tokens ≡ st (pre F) (done_all c o F 0) hub (size F) bridges []
    pub closed : shut bridges ≡ true
    pub bonds : (p : Bond → Bool) → count p (done_all c o F 0) ≡ count p (trees F 0) + count p N

  pub readback : (F : Forest) → All (λ b. b.hi < size F) N → Readback F
  readback F w =
      let v = inv-after N c o k F 0 [] inv-start in
      let z : 0 + size F ≡ size F = zero-add (size F) in
      record {
        hub = last_hub F 0 0;
        bridges = hooks (after c o F 0 []);
        reads = read-text N c o k F 0 0 [] [] [] inv-start ∙ (λ i. st (pre F) (done_all c o F 0) (last_hub F 0 0) (z i) (hooks (after c o F 0 [])) []);
        closed = shut-of (after c o F 0 []) (v (λ b. true) ∙ nobody (λ b. true) (pending (0 + size F)) N (all_map (λ b. b.hi < size F) (λ b. pending (0 + size F) b ≡ false) (λ b h. rw (lt-leb (0 + size F) b.hi (omega arith)) (and-false (ltb b.lo (0 + size F)))) N w));
        bonds = λ p. omega (
          arith,
          done_all-count p F 0,
          nobody p (before 0) N (all_map (λ b. b.hi < size F) (λ b. (p b && before 0 b) ≡ false) (λ b h. rw (le-ltb b.hi 0 (omega arith)) (and-false (p b))) N w),
          count-all p (before (0 + size F)) N (all_map (λ b. b.hi < size F) (λ b. before (0 + size F) b ≡ true) (λ b h. lt-ltb b.hi (0 + size F) (omega arith)) N w),
        );
      }
