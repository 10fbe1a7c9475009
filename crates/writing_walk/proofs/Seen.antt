-- What the bonds at an atom say as seen from it, and tests of bonds that do not ask which end comes first, are the same after the round trip. Assumes nothing.
use mathlib.Core.Path.{◌≡◌, refl, ap, ◌∙◌}
use mathlib.Core.Bool.{Bool, true, false, cond}
use mathlib.Core.List.{List, [], ◌∷◌, map}
use Prim.Native.Nat.{ℕ, ◌+◌, ◌<◌}
use native.Mathlib.Omega.{arith}
use lib.Dec.{eqb, ltb}
use borrow.Author.Tests.{eqb-true}
use Rattle.kinds.specs.Kind.{turned}
use Rattle.kinds.proofs.Kind.{turned-twice}
use Rattle.writing_walk.specs.Token.{Bond, bond}
use Rattle.writing_walk.specs.Emit.{pre}
use Rattle.writing_walk.specs.Walk.{forest_of, place, renumber, renumbered}
use Rattle.writing_walk.proofs.Count.{All, none, more}
use Rattle.writing_walk.proofs.Walk.{times, Inside}
use Rattle.writing_walk.proofs.Trip.{renumbering, completed}
use Rattle.writing_walk.proofs.Perm.{Perm, nil, cons, swap, trans, bonds-permuted}
use Rattle.writing_walk.proofs.Sums.{total, total-perm, eqb-place}

-- the weight of a kind as seen from v, for the bonds at v
abbrev pub aimed_at : (ℕ → ℕ) → ℕ → Bond → ℕ
aimed_at wt v b = cond (eqb b.lo v) (wt b.kind) (cond (eqb b.hi v) (wt (turned b.kind)) 0)

module _ (n : ℕ) (order : List ℕ) (all : (v : ℕ) → v < n → 0 < times v order) (wt : ℕ → ℕ) (v : ℕ) (h : v < n) where
  aimed-place : (b : Bond) → (b.lo < b.hi) × (b.hi < n) → aimed_at wt (place order v) (renumber order b) ≡ aimed_at wt v b
  aimed-place b i = go (ltb (place order b.lo) (place order b.hi))
    where
      e1 : eqb (place order b.lo) (place order v) ≡ eqb b.lo v
      e1 = eqb-place n order all v h b.lo (omega arith)

      e2 : eqb (place order b.hi) (place order v) ≡ eqb b.hi v
      e2 = eqb-place n order all v h b.hi i.1

      -- not both ends are v
      swapped : (x : Bool) → eqb b.lo v ≡ x → (y : Bool) → eqb b.hi v ≡ y
          → cond y (wt (turned b.kind)) (cond x (wt (turned (turned b.kind))) 0) ≡ cond x (wt b.kind) (cond y (wt (turned b.kind)) 0)
      swapped true p true q = absurd (let r = eqb-true b.lo v p in let s = eqb-true b.hi v q in omega (arith, r, s, i.0))
      swapped true p false q = ap wt (turned-twice b.kind)
      swapped false p y q = refl

      go : (x : Bool) → aimed_at wt (place order v) (cond x (bond (place order b.lo) (place order b.hi) b.kind) (bond (place order b.hi) (place order b.lo) (turned b.kind))) ≡ aimed_at wt v b
      go true = λ j. cond (e1 j) (wt b.kind) (cond (e2 j) (wt (turned b.kind)) 0)
      go false = (λ j. cond (e2 j) (wt (turned b.kind)) (cond (e1 j) (wt (turned (turned b.kind))) 0)) ∙ swapped (eqb b.lo v) refl (eqb b.hi v) refl

  pub aimed-sum : (bs : List Bond) → Inside n bs → total (aimed_at wt (place order v)) (map (renumber order) bs) ≡ total (aimed_at wt v) bs
  aimed-sum [] none = refl
  aimed-sum (b ∷ bs) (more i a) = λ j. aimed-place b i j + aimed-sum bs a j

-- THE STATEMENT: what the kinds say, seen from the atom, adds up to the same in the molecule that is read
pub aimed-kept : (n : ℕ) (bs : List Bond) → Inside n bs → (wt : ℕ → ℕ) (v : ℕ) → v < n → total (aimed_at wt (place (pre (forest_of n bs)) v)) (completed n bs) ≡ total (aimed_at wt v) bs
unfolding renumbered
aimed-kept n bs i wt v h =
    let p : Perm (completed n bs) (map (renumber (pre (forest_of n bs))) bs) = bonds-permuted n bs i in
    total-perm (aimed_at wt (place (pre (forest_of n bs)) v)) p ∙ aimed-sum n (pre (forest_of n bs)) (renumbering n bs i).every wt v h bs i

-- what holds of each holds in any order
pub all-perm : (P : Bond → Type 0) {l m : List Bond} → Perm l m → All P m → All P l
all-perm P nil none = none
all-perm P (cons p) (more h a) = more h (all-perm P p a)
all-perm P (swap p) (more h (more g a)) = more g (more h (all-perm P p a))
all-perm P (trans p q) a = all-perm P p (all-perm P q a)

-- a test of a kind and of what is said of the two ends, which does not ask which comes first
module _ (n : ℕ) (bs : List Bond) (i : Inside n bs) (test : ℕ → Bool → Bool → Bool) (either : (k : ℕ) (x y : Bool) → test (turned k) y x ≡ test k x y) (said said' : ℕ → Bool)
    (same : (v : ℕ) → v < n → said' (place (pre (forest_of n bs)) v) ≡ said v) where
  abbrev Holds : (ℕ → Bool) → Bond → Type 0
  Holds f b = test b.kind (f b.lo) (f b.hi) ≡ true

  abbrev order : List ℕ
  order = pre (forest_of n bs)

  test-place : (b : Bond) → (b.lo < b.hi) × (b.hi < n) → Holds said b → Holds said' (renumber order b)
  test-place b w h = go (ltb (place order b.lo) (place order b.hi))
    where
      e1 : said' (place order b.lo) ≡ said b.lo
      e1 = same b.lo (omega arith)

      e2 : said' (place order b.hi) ≡ said b.hi
      e2 = same b.hi w.1

      go : (x : Bool) → Holds said' (cond x (bond (place order b.lo) (place order b.hi) b.kind) (bond (place order b.hi) (place order b.lo) (turned b.kind)))
      go true = (λ j. test b.kind (e1 j) (e2 j)) ∙ h
      go false = (λ j. test (turned b.kind) (e2 j) (e1 j)) ∙ either b.kind (said b.lo) (said b.hi) ∙ h

  tests-place : (l : List Bond) → Inside n l → All (Holds said) l → All (Holds said') (map (renumber order) l)
  tests-place [] none none = none
  tests-place (b ∷ l) (more w a) (more h g) = more (test-place b w h) (tests-place l a g)

  -- THE STATEMENT: what all bonds pass, all bonds of the molecule that is read pass
  pub tests-kept : All (Holds said) bs → All (Holds said') (completed n bs)
  unfolding renumbered
  tests-kept h =
      let p : Perm (completed n bs) (map (renumber order) bs) = bonds-permuted n bs i in
      all-perm (Holds said') p (tests-place bs i h)
