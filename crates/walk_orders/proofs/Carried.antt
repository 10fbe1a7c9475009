-- The bonds at an atom go to the same atoms after the round trip, under the renumbering. Assumes nothing.
use Prim.Native.Nat.{ℕ, ◌<◌}
use native.Mathlib.Omega.{arith}
use mathlib.Core.Path.{◌≡◌, refl, ap, ◌∙◌, subst}
use mathlib.Core.Bool.{Bool, true, false, ◌||◌, cond}
use mathlib.Core.List.{List, [], ◌∷◌, map}
use lib.Dec.{eqb, ltb}
use borrow.Author.Tests.{eqb-true}
use Rattle.kinds.specs.Kind.{turned}
use Rattle.parity.specs.Parity.{Perm, nil, cons, swap, trans}
use Rattle.writing_walk.specs.Token.{Bond, bond}
use Rattle.writing_walk.specs.Emit.{pre}
use Rattle.writing_walk.specs.Walk.{forest_of, place, renumber, renumbered, keep, keep_if}
use Rattle.writing_walk.specs.Same.{none, more, Perm as BondPerm, nil as none-swapped, cons as first-kept, swap as first-swapped, trans as in-turn}
use Rattle.writing_walk.specs.Ranks.{touches, other_end}
use Rattle.writing_walk.proofs.Count.{never}
use Rattle.writing_walk.proofs.Walk.{Inside}
use Rattle.writing_walk.proofs.Trip.{completed, renumbering}
use Rattle.writing_walk.proofs.Sums.{eqb-place}
use Rattle.writing_walk.proofs.Perm.{bonds-permuted}
use Rattle.walk_orders.proofs.Numbers.{ends_at}

pub perm-back : {A : Type 0} {l m : List A} → Perm l m → Perm m l
perm-back nil = nil
perm-back (cons p) = cons (perm-back p)
perm-back (swap p) = swap (perm-back p)
perm-back (trans p q) = trans (perm-back q) (perm-back p)

ends-perm : (x : ℕ) {l m : List Bond} → BondPerm l m → Perm (ends_at x l) (ends_at x m)
ends-perm x none-swapped = nil
ends-perm x (first-kept {x = b} {l} {m} p) = go (touches x b) (ends-perm x p)
  where
    go : (t : Bool) → Perm (ends_at x l) (ends_at x m) → Perm (map (other_end x) (keep_if t b (keep (touches x) l))) (map (other_end x) (keep_if t b (keep (touches x) m)))
    go true r = cons r
    go false r = r
ends-perm x (first-swapped {x = b} {y = c} {l} {m} p) = go (touches x b) (touches x c) (ends-perm x p)
  where
    go : (t u : Bool) → Perm (ends_at x l) (ends_at x m)
        → Perm (map (other_end x) (keep_if t b (keep_if u c (keep (touches x) l)))) (map (other_end x) (keep_if u c (keep_if t b (keep (touches x) m))))
    go true true r = swap r
    go true false r = cons r
    go false true r = cons r
    go false false r = r
ends-perm x (in-turn p q) = trans (ends-perm x p) (ends-perm x q)

-- the walk numbers of the atoms to which the bonds at v go
abbrev pub walk_ends : ℕ → List Bond → ℕ → List ℕ
walk_ends n bs v = map (λ b. place (pre (forest_of n bs)) (other_end v b)) (keep (touches v) bs)

module _ (n : ℕ) (bs : List Bond) (i : Inside n bs) (v : ℕ) (h : v < n) where
  abbrev order : List ℕ
  order = pre (forest_of n bs)

  abbrev x : ℕ
  x = place order v

  or_turn : (p q : Bool) → (p || q) ≡ (q || p)
  or_turn true true = refl
  or_turn true false = refl
  or_turn false true = refl
  or_turn false false = refl

  module _ (b : Bond) (g : (b.lo < b.hi) × (b.hi < n)) where
    at-lo : eqb (place order b.lo) x ≡ eqb b.lo v
    at-lo = eqb-place n order (renumbering n bs i).every v h b.lo (let l = g.0 in let m = g.1 in omega arith)

    at-hi : eqb (place order b.hi) x ≡ eqb b.hi v
    at-hi = eqb-place n order (renumbering n bs i).every v h b.hi g.1

    abbrev turned_to : Bool → Bond
    turned_to t = cond t (bond (place order b.lo) (place order b.hi) b.kind) (bond (place order b.hi) (place order b.lo) (turned b.kind))

    pub touches-place : touches x (renumber order b) ≡ touches v b
    touches-place = go (ltb (place order b.lo) (place order b.hi))
      where
        go : (t : Bool) → touches x (turned_to t) ≡ touches v b
        go true = λ j. at-lo j || at-hi j
        go false = (λ j. at-hi j || at-lo j) ∙ or_turn (eqb b.hi v) (eqb b.lo v)

    pub other_place : touches v b ≡ true → other_end x (renumber order b) ≡ place order (other_end v b)
    other_place t = go (ltb (place order b.lo) (place order b.hi))
      where
        -- exactly one end is v
        one : (p q : Bool) → eqb b.lo v ≡ p → eqb b.hi v ≡ q → (p || q) ≡ true → cond q (place order b.lo) (place order b.hi) ≡ place order (cond p b.hi b.lo)
        one true true e f u = absurd (let y = eqb-true b.lo v e in let z = eqb-true b.hi v f in let l = g.0 in omega arith)
        one true false e f u = refl
        one false true e f u = refl
        one false false e f u = absurd (never false u refl)

        pushed : (p : Bool) → cond p (place order b.hi) (place order b.lo) ≡ place order (cond p b.hi b.lo)
        pushed true = refl
        pushed false = refl

        go : (t : Bool) → other_end x (turned_to t) ≡ place order (other_end v b)
        go true = (λ j. cond (at-lo j) (place order b.hi) (place order b.lo)) ∙ pushed (eqb b.lo v)
        go false = (λ j. cond (at-hi j) (place order b.lo) (place order b.hi)) ∙ one (eqb b.lo v) (eqb b.hi v) refl refl t

  renumbered-ends : (l : List Bond) → Inside n l → ends_at x (map (renumber order) l) ≡ map (λ b. place order (other_end v b)) (keep (touches v) l)
  renumbered-ends [] none = refl
  renumbered-ends (b ∷ l) (more g a) =
      ap (λ (t : Bool). map (other_end x) (keep_if t (renumber order b) (keep (touches x) (map (renumber order) l)))) (touches-place b g)
      ∙ go (touches v b) refl (renumbered-ends l a)
    where
      go : (t : Bool) → touches v b ≡ t → ends_at x (map (renumber order) l) ≡ map (λ b. place order (other_end v b)) (keep (touches v) l)
          → map (other_end x) (keep_if t (renumber order b) (keep (touches x) (map (renumber order) l))) ≡ map (λ b. place order (other_end v b)) (keep_if t b (keep (touches v) l))
      go true e r = λ j. other_place b g e j ∷ r j
      go false e r = r

  -- THE STATEMENT: the atoms to which the bonds of v go are, under the renumbering, those to which the bonds read at its walk number go
  pub same_ends_lem : Perm (walk_ends n bs v) (ends_at x (completed n bs))
  unfolding renumbered
  same_ends_lem =
      let p : BondPerm (completed n bs) (map (renumber order) bs) = bonds-permuted n bs i in
      subst (λ (l : List ℕ). Perm l (ends_at x (completed n bs))) (renumbered-ends bs i) (perm-back (ends-perm x p))
