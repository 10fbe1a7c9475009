-- Two orders of the same items: how turns add up, and that the listing of the items does not matter. Assumes nothing.
use Prim.Native.Nat.{ℕ}
use mathlib.Core.Path.{◌≡◌, refl, sym, ap, ◌∙◌}
use mathlib.Core.Bool.{Bool, true, false, not, ◌&&◌}
use mathlib.Core.List.{List, [], ◌∷◌, map}
use lib.Dec.{eqb}
use borrow.Author.Tests.{eqb-false, eq-eqb, not-true}
use Rattle.loops.proofs.Loops.{and_left, and_right}
use Rattle.parity.specs.Parity.{flip_if, oddly, odd_pairs, over, odd, absent, unlike, ascending, differs, turned, Apart, Perm, nil, cons, swap, trans}
use Rattle.parity.proofs.Flips.{flip-assoc, flip-comm, flip_twice, flip-self, flip-not, not-flip, not-not, adjacent-same, pairs-both}
use Rattle.parity.proofs.Items.{perm-map, oddly-perm, unlike-perm}
use Rattle.parity.proofs.Swapped.{over-turned, ascending-even}

-- a rank of the items is a list of numbers
oddly-map : (t : ℕ → Bool) (f : ℕ → ℕ) (l : List ℕ) → oddly t (map f l) ≡ oddly (λ y. t (f y)) l
unfolding oddly
oddly-map t f [] = refl
oddly-map t f (y ∷ l) = ap (flip_if (t (f y))) (oddly-map t f l)

pub odd-map : (f : ℕ → ℕ) (l : List ℕ) → odd (map f l) ≡ odd_pairs (λ x y. over (f x) (f y)) l
unfolding odd odd_pairs
odd-map f [] = refl
odd-map f (x ∷ l) = ap (λ (b : Bool). flip_if b (odd (map f l))) (oddly-map (over (f x)) f l) ∙ ap (flip_if (oddly (λ y. over (f x) (f y)) l)) (odd-map f l)

-- the turn between two orders is the difference of their parities, however the items are listed
pub turned-odd : (f g : ℕ → ℕ) (l : List ℕ) → turned f g l ≡ flip_if (odd (map f l)) (odd (map g l))
unfolding turned
turned-odd f g l =
    pairs-both (λ x y. over (f x) (f y)) (λ x y. over (g x) (g y)) l
    ∙ ap (λ (b : Bool). flip_if b (odd_pairs (λ x y. over (g x) (g y)) l)) (sym (odd-map f l))
    ∙ ap (flip_if (odd (map f l))) (sym (odd-map g l))

module _ (l : List ℕ) where
  -- LAWS: no turn from an order to itself; the turn back is the turn; turns add up
  pub turned_same : (f : ℕ → ℕ) → turned f f l ≡ false
  turned_same f = turned-odd f f l ∙ flip-self (odd (map f l))

  pub turned-back : (f g : ℕ → ℕ) → turned f g l ≡ turned g f l
  turned-back f g = turned-odd f g l ∙ flip-comm (odd (map f l)) (odd (map g l)) ∙ sym (turned-odd g f l)

  pub turned-through : (f g h : ℕ → ℕ) → flip_if (turned f g l) (turned g h l) ≡ turned f h l
  turned-through f g h =
      ap (λ (b : Bool). flip_if b (turned g h l)) (turned-odd f g l)
      ∙ ap (flip_if (flip_if (odd (map f l)) (odd (map g l)))) (turned-odd g h l)
      ∙ flip-assoc (odd (map f l)) (odd (map g l)) (flip_if (odd (map g l)) (odd (map h l)))
      ∙ ap (flip_if (odd (map f l))) (flip_twice (odd (map g l)) (odd (map h l)))
      ∙ sym (turned-odd f h l)

  -- where the items are listed by ascending g, the turn is the parity of the ranks f
  pub turned-listed : (f g : ℕ → ℕ) → ascending (map g l) ≡ true → turned f g l ≡ odd (map f l)
  turned-listed f g a = turned-odd f g l ∙ ap (flip_if (odd (map f l))) (ascending-even (map g l) a) ∙ flip-comm (odd (map f l)) false

-- two items that both orders tell apart: they differ on the pair whichever stands first
differs-turned : (f g : ℕ → ℕ) (x y : ℕ) → (f x ≡ f y → ⊥) → (g x ≡ g y → ⊥) → differs f g y x ≡ differs f g x y
differs-turned f g x y a b =
    ap (λ (c : Bool). flip_if c (over (g y) (g x))) (over-turned (f x) (f y) a)
    ∙ ap (flip_if (not (over (f x) (f y)))) (over-turned (g x) (g y) b)
    ∙ not-flip (over (f x) (f y)) (not (over (g x) (g y)))
    ∙ ap not (flip-not (over (f x) (f y)) (over (g x) (g y)))
    ∙ not-not (differs f g x y)

module _ (f : ℕ → ℕ) where
  apart-tail : (x : ℕ) (l : List ℕ) → Apart f (x ∷ l) → Apart f l
  unfolding unlike
  apart-tail x l a = and_right (absent (f x) (map f l)) (unlike (map f l)) a

  apart-head : (x y : ℕ) (l : List ℕ) → Apart f (x ∷ y ∷ l) → f x ≡ f y → ⊥
  unfolding unlike absent
  apart-head x y l a =
      eqb-false (f x) (f y) (not-true (eqb (f x) (f y)) (and_left (not (eqb (f x) (f y))) (absent (f x) (map f l)) (and_left (absent (f x) (f y ∷ map f l)) (unlike (f y ∷ map f l)) a)))

  pub apart-perm : {l m : List ℕ} → Perm l m → Apart f l → Apart f m
  apart-perm p a = sym (unlike-perm (perm-map f p)) ∙ a

-- LAW: the listing does not matter
pub turned-perm : (f g : ℕ → ℕ) {l m : List ℕ} → Perm l m → Apart f l → Apart g l → turned f g l ≡ turned f g m
unfolding turned odd_pairs
turned-perm f g nil a b = refl
turned-perm f g (cons {x} {l} {m} p) a b =
    ap (λ (c : Bool). flip_if c (turned f g l)) (oddly-perm (differs f g x) p)
    ∙ ap (flip_if (oddly (differs f g x) m)) (turned-perm f g p (apart-tail f x l a) (apart-tail g x l b))
turned-perm f g (swap {x} {y} {l} {m} p) a b =
    let rest = turned-perm f g p (apart-tail f y l (apart-tail f x (y ∷ l) a)) (apart-tail g y l (apart-tail g x (y ∷ l) b)) in
    sym (adjacent-same (differs f g) x y l (differs-turned f g x y (apart-head f x y l a) (apart-head g x y l b)))
    ∙ ap (λ (c : Bool). flip_if (oddly (differs f g y) (x ∷ l)) (flip_if c (turned f g l))) (oddly-perm (differs f g x) p)
    ∙ ap (λ (c : Bool). flip_if (oddly (differs f g y) (x ∷ l)) (flip_if (oddly (differs f g x) m) c)) rest
    ∙ ap (λ (c : Bool). flip_if c (flip_if (oddly (differs f g x) m) (turned f g m))) (oddly-perm (differs f g y) (cons {x = x} p))
turned-perm f g (trans p q) a b = turned-perm f g p a b ∙ turned-perm f g q (apart-perm f p a) (apart-perm g p b)

-- LAW, there and back: an old order, the text's order and a new one, the items listed as each side has them at hand
pub there_and_back : (old text new : ℕ → ℕ) {l m : List ℕ} → Perm l m → Apart text l → Apart new l → flip_if (turned old text l) (turned text new m) ≡ turned old new l
there_and_back old text new {l} {m} p a b = ap (flip_if (turned old text l)) (sym (turned-perm text new p a b)) ∙ turned-through l old text new

-- LAW: ranks that order the items alike give the same turns: byte offsets, places of tokens, walk numbers
pub turned-alike : (f f' g : ℕ → ℕ) (l : List ℕ) → turned f f' l ≡ false → turned f g l ≡ turned f' g l
turned-alike f f' g l e = sym (turned-through l f f' g) ∙ ap (λ (b : Bool). flip_if b (turned f' g l)) e

and-false : (a b : Bool) → b ≡ false → (a && b) ≡ false
and-false true b e = e
and-false false b e = refl

-- an item of the list
abbrev pub Listed : List ℕ → ℕ → Type 0
Listed l y = absent y l ≡ false

listed-head : (x : ℕ) (l : List ℕ) → Listed (x ∷ l) x
unfolding absent
listed-head x l = ap (λ (b : Bool). not b && absent x l) (eq-eqb x x refl)

listed-tail : (x y : ℕ) (l : List ℕ) → Listed l y → Listed (x ∷ l) y
unfolding absent
listed-tail x y l h = and-false (not (eqb y x)) (absent y l) h

module _ (f g : ℕ → ℕ) where
  same-pairs : (x : ℕ) (l : List ℕ) → ((y : ℕ) → Listed l y → over (f x) (f y) ≡ over (g x) (g y)) → oddly (differs f g x) l ≡ false
  unfolding oddly
  same-pairs x [] h = refl
  same-pairs x (y ∷ l) h =
      ap (λ (b : Bool). flip_if (flip_if b (over (g x) (g y))) (oddly (differs f g x) l)) (h y (listed-head y l))
      ∙ ap (λ (b : Bool). flip_if b (oddly (differs f g x) l)) (flip-self (over (g x) (g y)))
      ∙ same-pairs x l (λ z k. h z (listed-tail y z l k))

  pub alike-even : (l : List ℕ) → ((x y : ℕ) → Listed l x → Listed l y → over (f x) (f y) ≡ over (g x) (g y)) → turned f g l ≡ false
  unfolding turned odd_pairs
  alike-even [] h = refl
  alike-even (x ∷ l) h =
      ap (λ (b : Bool). flip_if b (turned f g l)) (same-pairs x l (λ y k. h x y (listed-head x l) (listed-tail x y l k)))
      ∙ alike-even l (λ y z j k. h y z (listed-tail x y l j) (listed-tail x z l k))

-- LAW, the hydrogen: one item more, which the two orders put differently to an odd or an even number of the others
pub turned_more : (f g : ℕ → ℕ) (x : ℕ) (l : List ℕ) → turned f g (x ∷ l) ≡ flip_if (oddly (differs f g x) l) (turned f g l)
unfolding turned odd_pairs
turned_more f g x l = refl
