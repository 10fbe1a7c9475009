-- What is summed over the bonds at an atom (its bond sum) is the same after the round trip. Assumes nothing.
use mathlib.Core.Path.{◌≡◌, refl, ap, ◌∙◌}
use mathlib.Core.Bool.{Bool, true, false, ◌||◌, cond}
use mathlib.Core.List.{List, [], ◌∷◌, map}
use Prim.Native.Nat.{ℕ, ◌+◌, ◌<◌}
use native.Mathlib.Omega.{arith}
use lib.Dec.{eqb, ltb}
use borrow.Author.Tests.{eq-eqb, ne_eqb, eqb-true, eqb-false}
use Rattle.kinds.specs.Kind.{turned}
use Rattle.writing_walk.specs.Token.{Bond, bond}
use Rattle.writing_walk.specs.Emit.{pre}
use Rattle.writing_walk.specs.Walk.{forest_of, place, renumber, renumbered}
use Rattle.writing_walk.proofs.Count.{none, more}
use Rattle.writing_walk.proofs.Walk.{times, Inside}
use Rattle.writing_walk.proofs.Trip.{place-inj, renumbering, completed}
use Rattle.writing_walk.proofs.Perm.{Perm, nil, cons, swap, trans, bonds-permuted}

abbrev pub total : (Bond → ℕ) → List Bond → ℕ
total f [] = 0
total f (b ∷ l) = f b + total f l

pub total-perm : (f : Bond → ℕ) {l m : List Bond} → Perm l m → total f l ≡ total f m
total-perm f nil = refl
total-perm f (cons p) = omega (arith, total-perm f p)
total-perm f (swap p) = omega (arith, total-perm f p)
total-perm f (trans p q) = total-perm f p ∙ total-perm f q

-- the weight of a kind, for the bonds at v
abbrev pub weight_at : (ℕ → ℕ) → ℕ → Bond → ℕ
weight_at wt v b = cond (eqb b.lo v || eqb b.hi v) (wt b.kind) 0

abbrev pub bond_sum : (ℕ → ℕ) → ℕ → List Bond → ℕ
bond_sum wt v bs = total (weight_at wt v) bs

pub eqb-place : (n : ℕ) (order : List ℕ) → ((v : ℕ) → v < n → 0 < times v order) → (v : ℕ) → v < n → (u : ℕ) → u < n → eqb (place order u) (place order v) ≡ eqb u v
eqb-place n order all v h u g = go (eqb u v) refl
  where
    go : (x : Bool) → eqb u v ≡ x → eqb (place order u) (place order v) ≡ x
    go true e = eq-eqb (place order u) (place order v) (ap (place order) (eqb-true u v e))
    go false e = ne_eqb (place order u) (place order v) (λ q. eqb-false u v e (place-inj u v order (all u g) (all v h) q))

module _ (n : ℕ) (order : List ℕ) (all : (v : ℕ) → v < n → 0 < times v order) (wt : ℕ → ℕ) (same : (k : ℕ) → wt (turned k) ≡ wt k) (v : ℕ) (h : v < n) where
  or_turn : (x y : Bool) → (x || y) ≡ (y || x)
  or_turn true true = refl
  or_turn true false = refl
  or_turn false true = refl
  or_turn false false = refl

  pub weight-place : (b : Bond) → (b.lo < b.hi) × (b.hi < n) → weight_at wt (place order v) (renumber order b) ≡ weight_at wt v b
  weight-place b i = go (ltb (place order b.lo) (place order b.hi))
    where
      e1 : eqb (place order b.lo) (place order v) ≡ eqb b.lo v
      e1 = eqb-place n order all v h b.lo (omega arith)

      e2 : eqb (place order b.hi) (place order v) ≡ eqb b.hi v
      e2 = eqb-place n order all v h b.hi i.1

      go : (x : Bool) → weight_at wt (place order v) (cond x (bond (place order b.lo) (place order b.hi) b.kind) (bond (place order b.hi) (place order b.lo) (turned b.kind))) ≡ weight_at wt v b
      go true = λ j. cond (e1 j || e2 j) (wt b.kind) 0
      go false = (λ j. cond (e2 j || e1 j) (same b.kind j) 0) ∙ ap (λ (x : Bool). cond x (wt b.kind) 0) (or_turn (eqb b.hi v) (eqb b.lo v))

  pub sum-place : (bs : List Bond) → Inside n bs → bond_sum wt (place order v) (map (renumber order) bs) ≡ bond_sum wt v bs
  sum-place [] none = refl
  sum-place (b ∷ bs) (more i a) = λ j. weight-place b i j + sum-place bs a j

-- THE STATEMENT: the atom's bond sum in the molecule that is read is its bond sum in the one that was written
pub sum_kept : (n : ℕ) (bs : List Bond) → Inside n bs → (wt : ℕ → ℕ) → ((k : ℕ) → wt (turned k) ≡ wt k) → (v : ℕ) → v < n → bond_sum wt (place (pre (forest_of n bs)) v) (completed n bs) ≡ bond_sum wt v bs
unfolding renumbered
sum_kept n bs i wt same v h =
    let p : Perm (completed n bs) (map (renumber (pre (forest_of n bs))) bs) = bonds-permuted n bs i in
    total-perm (weight_at wt (place (pre (forest_of n bs)) v)) p ∙ sum-place n (pre (forest_of n bs)) (renumbering n bs i).every wt same v h bs i
