-- A renumbering meets every number below its count (pigeons and holes), so it has an inverse. Assumes nothing.
use mathlib.Core.Path.{◌≡◌, refl, sym, ap, ◌∙◌}
use mathlib.Core.Bool.{Bool, true, false}
use mathlib.Core.List.{List, [], ◌∷◌}
use Prim.Native.Nat.{ℕ, zero, suc, ◌<◌}
use native.Mathlib.Omega.{arith}
use lib.Dec.{eqb}
use lib.ListN.{length, get_or}
use borrow.Author.Tests.{eqb-true, eqb-false, eq-eqb}
use Rattle.loops.specs.Loop.{pick, up_to}
use Rattle.loops.proofs.Loops.{length-up_to, up_to-at}
use Rattle.same_model.specs.Same.{image}
use Rattle.same_model.specs.Redrawing.{Renumbering}

-- f meets w below n
pub record Hit (f : ℕ → ℕ) (n w : ℕ) : Type 0 where
  pub at : ℕ
  pub within : at < n
  pub hits : f at ≡ w

-- f without its last number: what went to n goes where n went
abbrev pub without : (ℕ → ℕ) → ℕ → ℕ → ℕ
without f n a = pick (eqb (f a) n) (f n) (f a)

smaller : (x n : ℕ) → x < suc n → (x ≡ n → ⊥) → x < n
smaller x n l q = omega arith

module _ (n : ℕ) (f : ℕ → ℕ) (h : (a : ℕ) → a < suc n → f a < suc n) (j : (a b : ℕ) → a < suc n → b < suc n → f a ≡ f b → a ≡ b) where
  pub without-below : (a : ℕ) → a < n → without f n a < n
  without-below a l = go (eqb (f a) n) refl
    where
      go : (z : Bool) → eqb (f a) n ≡ z → pick z (f n) (f a) < n
      go true e = smaller (f n) n (h n (omega arith)) (λ k. let w : a ≡ n = j a n (omega arith) (omega arith) (eqb-true (f a) n e ∙ sym k) in omega arith)
      go false e = smaller (f a) n (h a (omega arith)) (eqb-false (f a) n e)

  pub without-one : (a b : ℕ) → a < n → b < n → without f n a ≡ without f n b → a ≡ b
  without-one a b l k = go (eqb (f a) n) (eqb (f b) n) refl refl
    where
      go : (y z : Bool) → eqb (f a) n ≡ y → eqb (f b) n ≡ z → pick y (f n) (f a) ≡ pick z (f n) (f b) → a ≡ b
      go true true e g q = j a b (omega arith) (omega arith) (eqb-true (f a) n e ∙ sym (eqb-true (f b) n g))
      go true false e g q = let w : n ≡ b = j n b (omega arith) (omega arith) q in absurd (omega arith)
      go false true e g q = let w : a ≡ n = j a n (omega arith) (omega arith) q in absurd (omega arith)
      go false false e g q = j a b (omega arith) (omega arith) q

  onto-step : ((w : ℕ) → w < n → Hit (without f n) n w) → (w : ℕ) → w < suc n → Hit f (suc n) w
  onto-step ih w l = go (eqb w n) refl
    where
      low : (v : ℕ) → Hit (without f n) n v → Hit f (suc n) v
      low v c = part c.at c.within (eqb (f c.at) n) refl c.hits
        where
          part : (a : ℕ) → a < n → (z : Bool) → eqb (f a) n ≡ z → pick z (f n) (f a) ≡ v → Hit f (suc n) v
          part a i true e q = record { at = n; within = omega arith; hits = q }
          part a i false e q = record { at = a; within = omega arith; hits = q }

      high : (b : Bool) → eqb (f n) n ≡ b → Hit f (suc n) n
      high true e = record { at = n; within = omega arith; hits = eqb-true (f n) n e }
      high false e = let c = ih (f n) (smaller (f n) n (h n (omega arith)) (eqb-false (f n) n e)) in part c.at c.within (eqb (f c.at) n) refl c.hits
        where
          part : (a : ℕ) → a < n → (z : Bool) → eqb (f a) n ≡ z → pick z (f n) (f a) ≡ f n → Hit f (suc n) n
          part a i true g q = record { at = a; within = omega arith; hits = eqb-true (f a) n g }
          part a i false g q = let v : a ≡ n = j a n (omega arith) (omega arith) q in absurd (omega arith)

      go : (b : Bool) → eqb w n ≡ b → Hit f (suc n) w
      go true e = let q = eqb-true w n e in let c = high (eqb (f n) n) refl in record { at = c.at; within = c.within; hits = c.hits ∙ sym q }
      go false e = low w (ih w (smaller w n l (eqb-false w n e)))

pub onto : (n : ℕ) (f : ℕ → ℕ) → ((a : ℕ) → a < n → f a < n) → ((a b : ℕ) → a < n → b < n → f a ≡ f b → a ≡ b) → (w : ℕ) → w < n → Hit f n w
onto zero f h j w l = absurd (omega arith)
onto (suc n) f h j w l = onto-step n f h j (onto n (without f n) (without-below n f h j) (without-one n f h j)) w l

-- a renumbering by a function
pub made : (n : ℕ) (f : ℕ → ℕ) → ((a : ℕ) → a < n → f a < n) → ((a b : ℕ) → a < n → b < n → f a ≡ f b → a ≡ b) → Renumbering n (up_to f 0 n)
made n f h j =
    record {
      size = length-up_to f 0 n;
      below = λ a l. rw (up_to-at f n a 0 l) (h a l);
      one = λ a b l k e. j a b l k (sym (up_to-at f n a 0 l) ∙ e ∙ up_to-at f n b 0 k);
    }

-- the first place of a number in a list
unfoldable pub place_of : List ℕ → ℕ → ℕ
place_of [] w = 0
place_of (d ∷ t) w = pick (eqb d w) 0 (suc (place_of t w))

place-hit : (t : List ℕ) (w a : ℕ) → a < length t → get_or t a 0 ≡ w → (place_of t w < length t) × (get_or t (place_of t w) 0 ≡ w)
unfolding place_of
place-hit [] w a l e = absurd (omega arith)
place-hit (d ∷ t) w zero l e = rw (eq-eqb d w e) (omega arith, e)
place-hit (d ∷ t) w (suc a) l e = go (eqb d w) refl (place-hit t w a (omega arith) e)
  where
    go : (z : Bool) → eqb d w ≡ z → (place_of t w < length t) × (get_or t (place_of t w) 0 ≡ w)
        → (pick z 0 (suc (place_of t w)) < suc (length t)) × (get_or (d ∷ t) (pick z 0 (suc (place_of t w))) 0 ≡ w)
    go true q k = (omega arith, eqb-true d w q)
    go false q k = (omega (arith, k.0), k.1)

-- the renumbering back
abbrev pub inverse : ℕ → List ℕ → List ℕ
inverse n t = up_to (place_of t) 0 n

module _ {n : ℕ} {t : List ℕ} (r : Renumbering n t) where
  place : (w : ℕ) → w < n → (place_of t w < n) × (image t (place_of t w) ≡ w)
  place w l =
      let c = onto n (image t) r.below r.one w l in
      let s : length t ≡ n = r.size in
      let k = place-hit t w c.at (omega (arith, c.within)) c.hits in
      (omega (arith, k.0), k.1)

  inverse-at : (w : ℕ) → w < n → image (inverse n t) w ≡ place_of t w
  inverse-at w l = up_to-at (place_of t) n w 0 l

  pub inverse-renumbers : Renumbering n (inverse n t)
  inverse-renumbers = made n (place_of t) (λ a l. (place a l).0) (λ a b l k e. sym (place a l).1 ∙ ap (image t) e ∙ (place b k).1)

  -- there and back
  pub image-back : (w : ℕ) → w < n → image t (image (inverse n t) w) ≡ w
  image-back w l = ap (image t) (inverse-at w l) ∙ (place w l).1

  pub back-image : (a : ℕ) → a < n → image (inverse n t) (image t a) ≡ a
  back-image a l =
      let i = r.below a l in
      let b = inverse-renumbers.below (image t a) i in
      r.one (image (inverse n t) (image t a)) a b l (image-back (image t a) i)
