-- A certificate shows a redrawing: the images of its bonds are all bonds of the second molecule. Assumes nothing.
use mathlib.Core.Path.{◌≡◌, refl, sym, ap, ◌∙◌}
use mathlib.Core.Bool.{Bool, true, false, ◌&&◌, ◌||◌, not}
use mathlib.Core.List.{List}
use Prim.Native.Nat.{ℕ, zero, suc, ◌+◌, ◌<◌, ◌≤◌}
use native.Mathlib.Omega.{arith}
use lib.Dec.{eqb}
use borrow.Author.Tests.{eqb-true, eqb-false, eq-eqb, not-true, not-false}
use Rattle.loops.specs.Loop.{pick, each, up_to}
use Rattle.loops.proofs.Loops.{and_left, and_right, up_to-at, each_at, each-fails}
use Rattle.table.specs.Cells.{end1, end2}
use Rattle.table.specs.Valid.{Valid}
use Rattle.table.proofs.Valid.{first-end, second-end}
use Rattle.matching.proofs.Graph.{and_intro, same_bool, or_cases}
use Rattle.same_model.specs.Same.{Molecule, joins, image}
use Rattle.same_model.specs.Redrawing.{joined, Redrawing}
use Rattle.same_model.proofs.Onto.{Hit, onto, made}
use Rattle.same_model.proofs.Totals.{total, total-none}
use Rattle.same_model.proofs.Single.{joined-total}
use Rattle.redrawing_check.specs.Certificate.{Shows}

-- a term is at most the sum
total-term : (f : ℕ → ℕ) (n k : ℕ) → k < n → f k ≤ total f n
unfolding total
total-term f zero k l = absurd (omega arith)
total-term f (suc n) k l = go (eqb k n) refl (λ i. total-term f n k i)
  where
    go : (z : Bool) → eqb k n ≡ z → (k < n → f k ≤ total f n) → f k ≤ total f n + f n
    go true e ih = rw (eqb-true k n e) (omega arith)
    go false e ih = let q = eqb-false k n e in let t = ih (omega arith) in omega arith

-- a bond that joins a and b, in either order
joins-ends : {R : Type 0} (x : Molecule) (a b k : ℕ) → joins x a b k ≡ true → (end1 x.bonds k ≡ a → end2 x.bonds k ≡ b → R) → (end1 x.bonds k ≡ b → end2 x.bonds k ≡ a → R) → R
unfolding joins
joins-ends x a b k h p q =
    let e = end1 x.bonds k in
    let f = end2 x.bonds k in
    or_cases (eqb e a && eqb f b) (eqb e b && eqb f a) h
    (λ w. p (eqb-true e a (and_left (eqb e a) (eqb f b) w)) (eqb-true f b (and_right (eqb e a) (eqb f b) w)))
    (λ w. q (eqb-true e b (and_left (eqb e b) (eqb f a) w)) (eqb-true f a (and_right (eqb e b) (eqb f a) w)))

or-true : (p q : Bool) → q ≡ true → (p || q) ≡ true
or-true true q h = refl
or-true false q h = h

ends-joins : (x : Molecule) (a b k : ℕ) → end1 x.bonds k ≡ a → end2 x.bonds k ≡ b → joins x a b k ≡ true
unfolding joins
ends-joins x a b k p q = let e = end1 x.bonds k in let f = end2 x.bonds k in rw (and_intro (eqb e a) (eqb f b) (eq-eqb e a p) (eq-eqb f b q)) refl

ends-joins-back : (x : Molecule) (a b k : ℕ) → end1 x.bonds k ≡ b → end2 x.bonds k ≡ a → joins x a b k ≡ true
unfolding joins
ends-joins-back x a b k p q =
    let e = end1 x.bonds k in
    let f = end2 x.bonds k in
    or-true (eqb e a && eqb f b) (eqb e b && eqb f a) (and_intro (eqb e b) (eqb f a) (eq-eqb e b p) (eq-eqb f a q))

-- a bond of valid tables that joins them
pub record Joining (x : Molecule) (a b : ℕ) : Type 0 where
  pub at : ℕ
  pub within : at < x.m
  pub joins-them : joins x a b at ≡ true

module _ (x : Molecule) (v : Valid x.atoms x.bonds x.n x.m) (a b : ℕ) where
  picked : (z : Bool) → 1 ≤ pick z 1 0 → z ≡ true
  picked true h = refl
  picked false h = absurd (omega arith)

  pub joining-joined : (k : ℕ) → k < x.m → joins x a b k ≡ true → joined x a b ≡ true
  joining-joined k l h =
      let t : pick (joins x a b k) 1 0 ≤ total (λ k. pick (joins x a b k) 1 0) x.m = total-term (λ k. pick (joins x a b k) 1 0) x.m k l in
      let o : ◌≡◌ {A = ℕ} (pick (joins x a b k) 1 0) 1 = ap (λ (z : Bool). pick z 1 0) h in
      let s = joined-total x v a b 1 in
      picked (joined x a b) (omega (arith, t, o, s))

  pub joined-joining : joined x a b ≡ true → Joining x a b
  joined-joining h = go (each (λ k. not (joins x a b k)) 0 x.m) refl
    where
      go : (z : Bool) → each (λ k. not (joins x a b k)) 0 x.m ≡ z → Joining x a b
      go true g =
          let s : total (λ k. pick (joins x a b k) 1 0) x.m ≡ 0 = total-none (λ k. pick (joins x a b k) 1 0) x.m (λ k l. ap (λ (z : Bool). pick z 1 0) (not-true (joins x a b k) (each_at (λ k. not (joins x a b k)) x.m k g l))) in
          let o : ◌≡◌ {A = ℕ} (pick (joined x a b) 1 0) 1 = ap (λ (z : Bool). pick z 1 0) h in
          absurd (omega (arith, s, o, joined-total x v a b 1))
      go false g =
          let c = each-fails (λ k. not (joins x a b k)) 0 x.m g in
          record { at = c.at; within = omega (arith, c.below); joins-them = not-false (joins x a b c.at) c.fails }

module _ {x y : Molecule} {t u : List ℕ} (v : Valid x.atoms x.bonds x.n x.m) (w : Valid y.atoms y.bonds y.n y.m) (s : Shows x y t u) where
  abbrev e : ℕ → ℕ
  e = end1 x.bonds

  abbrev f : ℕ → ℕ
  f = end2 x.bonds

  image-below : (k : ℕ) → k < x.m → image u k < y.m
  image-below k l = let q : x.m ≡ y.m = s.bonds in omega (arith, s.reorders.below k l)

  -- the image of a bond
  carried : (a b : ℕ) → joined x a b ≡ true → joined y (image t a) (image t b) ≡ true
  carried a b h =
      let c = joined-joining x v a b h in
      let k = c.at in
      let l = c.within in
      let g = s.ends k l in
      let y' = joining-joined y w (image t a) (image t b) (image u k) (image-below k l) in
      joins-ends x a b k c.joins-them
      (λ p q. y' (rw (p, q) at g))
      (λ p q. joins-ends y (image t (e k)) (image t (f k)) (image u k) g
      (λ i j. y' (ends-joins-back y (image t a) (image t b) (image u k) (i ∙ ap (image t) p) (j ∙ ap (image t) q)))
      (λ i j. y' (ends-joins y (image t a) (image t b) (image u k) (i ∙ ap (image t) q) (j ∙ ap (image t) p))))

  -- a bond between images is an image
  back : (a b : ℕ) → a < x.n → b < x.n → joined y (image t a) (image t b) ≡ true → joined x a b ≡ true
  back a b la lb h = part (onto x.m (image u) s.reorders.below s.reorders.one c.at (let q : x.m ≡ y.m = s.bonds in omega (arith, c.within)))
    where
      c : Joining y (image t a) (image t b)
      c = joined-joining y w (image t a) (image t b) h

      part : Hit (image u) x.m c.at → joined x a b ≡ true
      part i =
          let k = i.at in
          let l = i.within in
          let le = first-end v k l in
          let lf = second-end v k l in
          let one = s.renumbers.one in
          let g : joins y (image t a) (image t b) (image u k) ≡ true = ap (joins y (image t a) (image t b)) i.hits ∙ c.joins-them in
          let x' = joining-joined x v a b k l in
          let same : e k ≡ a → f k ≡ b → joined x a b ≡ true = λ p q. x' (ends-joins x a b k p q) in
          let turned : e k ≡ b → f k ≡ a → joined x a b ≡ true = λ p q. x' (ends-joins-back x a b k p q) in
          joins-ends y (image t a) (image t b) (image u k) g
          (λ p q. joins-ends y (image t (e k)) (image t (f k)) (image u k) (s.ends k l)
          (λ p' q'. same (one (e k) a le la (sym p' ∙ p)) (one (f k) b lf lb (sym q' ∙ q)))
          (λ p' q'. turned (one (e k) b le lb (sym q' ∙ q)) (one (f k) a lf la (sym p' ∙ p))))
          (λ p q. joins-ends y (image t (e k)) (image t (f k)) (image u k) (s.ends k l)
          (λ p' q'. turned (one (e k) b le lb (sym p' ∙ p)) (one (f k) a lf la (sym q' ∙ q)))
          (λ p' q'. same (one (e k) a le la (sym q' ∙ q)) (one (f k) b lf lb (sym p' ∙ p))))

  at : (a : ℕ) → a < x.n → image (up_to (image t) 0 x.n) a ≡ image t a
  at a l = up_to-at (image t) x.n a 0 l

  pub shown : Redrawing x y
  shown =
      record {
        renumbering = up_to (image t) 0 x.n;
        counts = s.atoms;
        renumbers = made x.n (image t) s.renumbers.below s.renumbers.one;
        cells = λ a l. rw (at a l) (s.cells a l);
        bonds = λ a b l k. rw (at a l, at b k) (same_bool (joined x a b) (joined y (image t a) (image t b)) (carried a b) (back a b l k));
        sums = λ a l. rw (at a l) (s.sums a l);
      }
