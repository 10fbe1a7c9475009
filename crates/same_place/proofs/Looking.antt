-- Whether an atom may go to a place: what is left to look at decides. Assumes nothing.
use mathlib.Core.Path.{◌≡◌, refl, sym, ap, ◌∙◌}
use mathlib.Core.Bool.{Bool, true, false, ◌&&◌, not}
use mathlib.Core.List.{List}
use Prim.Native.Nat.{ℕ, ◌<◌, ◌≤◌}
use lib.Dec.{eqb}
use borrow.Author.Tests.{eq-eqb, ne_eqb}
use Rattle.loops.specs.Loop.{each}
use Rattle.loops.proofs.Loops.{Left, left-fail, left_end}
use Rattle.same_model.specs.Same.{image}
use Rattle.same_place.specs.Place.{entry, beside, placeable}

and-false : (a : Bool) → false ≡ (a && false)
and-false true = refl
and-false false = refl

module _ (o1 o2 ok ren : List ℕ) (a d : ℕ) where
  pub place_out : (entry ok a d ≡ 1 → ⊥) → false ≡ placeable o1 o2 ok ren a d
  unfolding placeable
  place_out h = sym (ap (λ (z : Bool). z && each (beside o1 o2 ren a d) 0 a) (ne_eqb (entry ok a d) 1 h))

  pub place-all : {b : ℕ} → entry ok a d ≡ 1 → Left (beside o1 o2 ren a d) a b → a ≤ b → true ≡ placeable o1 o2 ok ren a d
  unfolding placeable
  place-all e l h = sym (ap (λ (z : Bool). z && each (beside o1 o2 ren a d) 0 a) (eq-eqb (entry ok a d) 1 e) ∙ left_end l h)

  module _ {b : ℕ} (l : Left (beside o1 o2 ren a d) a b) (h : b < a) where
    fail : beside o1 o2 ren a d b ≡ false → false ≡ placeable o1 o2 ok ren a d
    unfolding placeable
    fail e = and-false (eqb (entry ok a d) 1) ∙ ap (λ (z : Bool). eqb (entry ok a d) 1 && z) (sym (left-fail l h e))

    pub place-taken : image ren b ≡ d → false ≡ placeable o1 o2 ok ren a d
    place-taken e = fail (ap (λ (z : Bool). not z && eqb (entry o1 a b) (entry o2 d (image ren b))) (eq-eqb (image ren b) d e))

    pub place-differs : {u w : ℕ} → u ≡ entry o1 a b → w ≡ entry o2 d (image ren b) → (u ≡ w → ⊥) → false ≡ placeable o1 o2 ok ren a d
    place-differs e f g =
        fail (ap (λ (z : Bool). not (eqb (image ren b) d) && z) (ne_eqb (entry o1 a b) (entry o2 d (image ren b)) (λ q. g (e ∙ q ∙ sym f))) ∙ sym (and-false (not (eqb (image ren b) d))))

pub beside-fine : (o1 o2 ren : List ℕ) (a d b : ℕ) {u w : ℕ} → (image ren b ≡ d → ⊥) → u ≡ entry o1 a b → w ≡ entry o2 d (image ren b) → u ≡ w → beside o1 o2 ren a d b ≡ true
beside-fine o1 o2 ren a d b h e f g =
    ap (λ (z : Bool). not z && eqb (entry o1 a b) (entry o2 d (image ren b))) (ne_eqb (image ren b) d h) ∙ eq-eqb (entry o1 a b) (entry o2 d (image ren b)) (sym e ∙ g ∙ f)
