-- A renumbering as an order of the atoms, by its inverse: the walk's laws of renumberings hold of every renumbering. Assumes nothing.
use mathlib.Core.Path.{◌≡◌, refl, sym, ap, ◌∙◌}
use mathlib.Core.Bool.{Bool, true, false}
use mathlib.Core.List.{List, [], ◌∷◌, map}
use Prim.Native.Nat.{ℕ, zero, suc, ◌+◌, ◌<◌, ◌≤◌}
use native.Mathlib.Omega.{arith}
use lib.Dec.{eqb}
use lib.ListN.{length, get_or}
use borrow.Author.Tests.{eqb-true, eq-eqb}
use Rattle.writing_walk.specs.Token.{Bond, bond_between}
use Rattle.writing_walk.specs.Same.{bit, times, All, none, more}
use Rattle.writing_walk.specs.Walk.{place, renumber}
use Rattle.writing_walk.proofs.Walk.{Inside}
use Rattle.writing_walk.proofs.Trip as walk
use Rattle.writing_walk.proofs.Order.{place-below, atom-place}
use Rattle.same_model.specs.Same.{image}
use Rattle.same_model.specs.Redrawing.{Renumbering}
use Rattle.same_model.proofs.Onto.{inverse, inverse-renumbers, image-back, back-image}
use Rattle.same_renumbered.specs.Renumbered.{moved}

-- what stands at a place is counted
counted : (l : List ℕ) (i : ℕ) → i < length l → 0 < times (get_or l i 0) l
counted [] i h = absurd (omega arith)
counted (x ∷ l) zero h = let e : eqb x x ≡ true = eq-eqb x x refl in omega (arith, ap bit e)
counted (x ∷ l) (suc i) h = omega (arith, counted l i (omega arith))

-- what is counted has a place
place_of : (v : ℕ) (l : List ℕ) → 0 < times v l → (i : ℕ) × (i < length l) × (get_or l i 0 ≡ v)
place_of v [] h = absurd (omega arith)
place_of v (x ∷ l) h = go (eqb v x) refl h (place_of v l)
  where
    go : (e : Bool) → eqb v x ≡ e → 0 < bit e + times v l → (0 < times v l → (i : ℕ) × (i < length l) × (get_or l i 0 ≡ v)) → (i : ℕ) × (i < suc (length l)) × (get_or (x ∷ l) i 0 ≡ v)
    go true e h f = (0, omega arith, sym (eqb-true v x e))
    go false e h f = let w = f (omega arith) in (suc w.0, omega (arith, w.1), w.2)

-- one place for each number: no number twice
once : (l : List ℕ) → ((i j : ℕ) → i < length l → j < length l → get_or l i 0 ≡ get_or l j 0 → i ≡ j) → (v : ℕ) → times v l ≤ 1
once [] f v = omega arith
once (x ∷ l) f v = go (eqb v x) refl (once l (λ i j a b e. let w = f (suc i) (suc j) (omega arith) (omega arith) e in omega arith) v)
  where
    zero-times : (k : ℕ) → (0 < k → ⊥) → k ≡ 0
    zero-times k h = omega arith

    go : (e : Bool) → eqb v x ≡ e → times v l ≤ 1 → bit e + times v l ≤ 1
    go true e h = let z = zero-times (times v l) (λ p. let w = place_of v l p in let q : 0 ≡ suc w.0 = f 0 (suc w.0) (omega arith) (omega (arith, w.1)) (sym (eqb-true v x e) ∙ sym w.2) in omega arith) in omega arith
    go false e h = omega arith

all-below : (n : ℕ) (l : List ℕ) → ((i : ℕ) → i < length l → get_or l i 0 < n) → All (λ v. v < n) l
all-below n [] f = none
all-below n (x ∷ l) f = more (f 0 (omega arith)) (all-below n l (λ i h. f (suc i) (omega arith)))

module _ {n : ℕ} {t : List ℕ} (r : Renumbering n t) where
  -- the atoms in the order of their new numbers
  pub ordered : walk.Renumbering n (inverse n t)
  ordered =
      let b = inverse-renumbers r in
      let s : length (inverse n t) ≡ n = b.size in
      record {
        once = once (inverse n t) (λ i j h k e. b.one i j (omega arith) (omega arith) e);
        every = λ v h. let k = r.below v h in rw (back-image r v h) at (counted (inverse n t) (image t v) (omega arith));
        inside = all-below n (inverse n t) (λ i h. b.below i (omega arith));
        long = s;
      }

  -- an atom's place in that order is its new number
  pub place-image : (v : ℕ) → v < n → place (inverse n t) v ≡ image t v
  place-image v h = sym (image-back r (place (inverse n t) v) (place-below ordered v h)) ∙ ap (image t) (atom-place ordered v h)

  pub moved-list : (bs : List Bond) → Inside n bs → map (moved t) bs ≡ map (renumber (inverse n t)) bs
  moved-list [] none = refl
  moved-list (b ∷ bs) (more h a) =
      let e : image t b.lo ≡ place (inverse n t) b.lo = sym (place-image b.lo (omega arith)) in
      let f : image t b.hi ≡ place (inverse n t) b.hi = sym (place-image b.hi h.1) in
      λ i. bond_between (e i) (f i) b.kind ∷ moved-list bs a i
