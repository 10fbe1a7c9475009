-- Laws of turning, and of the parity of a number of pairs. Assumes nothing.
use mathlib.Core.Path.{◌≡◌, refl, sym, ap, ◌∙◌}
use mathlib.Core.Bool.{Bool, true, false, not}
use mathlib.Core.List.{List, [], ◌∷◌}
use Rattle.parity.specs.Parity.{flip_if, oddly, odd_pairs}

pub not-not : (a : Bool) → not (not a) ≡ a
not-not true = refl
not-not false = refl

pub flip-assoc : (a b c : Bool) → flip_if (flip_if a b) c ≡ flip_if a (flip_if b c)
flip-assoc true true c = sym (not-not c)
flip-assoc true false c = refl
flip-assoc false b c = refl

pub flip-swap : (a b c : Bool) → flip_if a (flip_if b c) ≡ flip_if b (flip_if a c)
flip-swap true true c = refl
flip-swap true false c = refl
flip-swap false true c = refl
flip-swap false false c = refl

pub flip-comm : (a b : Bool) → flip_if a b ≡ flip_if b a
flip-comm true true = refl
flip-comm true false = refl
flip-comm false true = refl
flip-comm false false = refl

pub flip_twice : (a b : Bool) → flip_if a (flip_if a b) ≡ b
flip_twice true b = not-not b
flip_twice false b = refl

pub flip-self : (a : Bool) → flip_if a a ≡ false
flip-self true = refl
flip-self false = refl

pub flip-not : (a b : Bool) → flip_if a (not b) ≡ not (flip_if a b)
flip-not true b = refl
flip-not false b = refl

pub not-flip : (a b : Bool) → flip_if (not a) b ≡ not (flip_if a b)
not-flip true b = sym (not-not b)
not-flip false b = refl

-- four turns, the middle two changed over
pub flip-middle : (a b c d : Bool) → flip_if (flip_if a b) (flip_if c d) ≡ flip_if (flip_if a c) (flip_if b d)
flip-middle a b c d = flip-assoc a b (flip_if c d) ∙ ap (flip_if a) (flip-swap b c d) ∙ sym (flip-assoc a c (flip_if b d))

module _ {A : Type 0} (t : A → A → Bool) where
  -- two neighbours change places: only the pair that they are can change
  pub adjacent-same : (x y : A) (l : List A) → t y x ≡ t x y → odd_pairs t (y ∷ x ∷ l) ≡ odd_pairs t (x ∷ y ∷ l)
  unfolding odd_pairs oddly
  adjacent-same x y l e =
      ap (λ (b : Bool). flip_if (flip_if b (oddly (t y) l)) (flip_if (oddly (t x) l) (odd_pairs t l))) e
      ∙ flip-middle (t x y) (oddly (t y) l) (oddly (t x) l) (odd_pairs t l)

  pub adjacent-flips : (x y : A) (l : List A) → t y x ≡ not (t x y) → odd_pairs t (y ∷ x ∷ l) ≡ not (odd_pairs t (x ∷ y ∷ l))
  unfolding odd_pairs oddly
  adjacent-flips x y l e =
      ap (λ (b : Bool). flip_if (flip_if b (oddly (t y) l)) (flip_if (oddly (t x) l) (odd_pairs t l))) e
      ∙ ap (λ (b : Bool). flip_if b (flip_if (oddly (t x) l) (odd_pairs t l))) (not-flip (t x y) (oddly (t y) l))
      ∙ not-flip (flip_if (t x y) (oddly (t y) l)) (flip_if (oddly (t x) l) (odd_pairs t l))
      ∙ ap not (flip-middle (t x y) (oddly (t y) l) (oddly (t x) l) (odd_pairs t l))

  -- the same item before two lists of the same items
  pub ahead-flips : (x : A) (l m : List A) → oddly (t x) l ≡ oddly (t x) m → odd_pairs t l ≡ not (odd_pairs t m) → odd_pairs t (x ∷ l) ≡ not (odd_pairs t (x ∷ m))
  unfolding odd_pairs
  ahead-flips x l m e h = ap (λ (b : Bool). flip_if b (odd_pairs t l)) e ∙ ap (flip_if (oddly (t x) m)) h ∙ flip-not (oddly (t x) m) (odd_pairs t m)

-- pairs that pass one of two tests and not the other
module _ {A : Type 0} where
  oddly-both : (s t : A → Bool) (l : List A) → oddly (λ y. flip_if (s y) (t y)) l ≡ flip_if (oddly s l) (oddly t l)
  unfolding oddly
  oddly-both s t [] = refl
  oddly-both s t (y ∷ l) = ap (flip_if (flip_if (s y) (t y))) (oddly-both s t l) ∙ flip-middle (s y) (t y) (oddly s l) (oddly t l)

  pub pairs-both : (s t : A → A → Bool) (l : List A) → odd_pairs (λ x y. flip_if (s x y) (t x y)) l ≡ flip_if (odd_pairs s l) (odd_pairs t l)
  unfolding odd_pairs
  pairs-both s t [] = refl
  pairs-both s t (x ∷ l) =
      ap (λ (b : Bool). flip_if b (odd_pairs (λ x y. flip_if (s x y) (t x y)) l)) (oddly-both (s x) (t x) l)
      ∙ ap (flip_if (flip_if (oddly (s x) l) (oddly (t x) l))) (pairs-both s t l)
      ∙ flip-middle (oddly (s x) l) (oddly (t x) l) (odd_pairs s l) (odd_pairs t l)
