-- Laws of the delocalization rule: the size of a charge, the shifted first target and the comparison, on signed numbers. Assumes nothing.
use mathlib.Core.Path.{◌≡◌, refl, ap, ◌∙◌}
use mathlib.Core.Bool.{Bool, true, false, ◌&&◌, cond}
use Prim.Native.Nat.{ℕ, zero, suc, ◌+◌, ◌-◌, ◌≤◌}
use native.Mathlib.Omega.{arith}
use borrow.Author.Tests.{eq-eqb, ne_eqb}
use lib.Dec.{eqb, leb, ltb}
use lib.IntN.{ℤ, pos, negsuc, nat_abs, neg_ℤ, sub_ℕ, ◌+ℤ◌, ◌-ℤ◌, +ℤ_idr}
use lib.Signed.{mag, le_z}
use mir.Syntax.{w32, w64}
use mir.Val.{Fits, SFits, to_z, of_z}
use mir.Facts.{to_z-of_z, to_z_pos, sfits_widen}
use Rattle.loops.specs.Loop.{pick}
use Rattle.valence.specs.Valence.{first_target, shifted_target, delocalized}
use Rattle.valence.proofs.Laws.{first-within}

-- ---- sums of two numbers of 32 bits fit 64
mag-sub : (a b : ℕ) → mag (sub_ℕ a b) ≤ a + b
mag-sub a b = go (ltb a b)
  where
    go : (t : Bool) → mag (cond t (negsuc (b - suc a)) (pos (a - b))) ≤ a + b
    go true = omega arith
    go false = omega arith

mag-add : (a b : ℤ) → mag (a +ℤ b) ≤ mag a + mag b + 1
mag-add (pos a) (pos b) = omega arith
mag-add (pos a) (negsuc b) = omega (arith, mag-sub a (suc b))
mag-add (negsuc a) (pos b) = omega (arith, mag-sub b (suc a))
mag-add (negsuc a) (negsuc b) = omega arith

mag-neg : (a : ℤ) → mag (neg_ℤ a) ≤ mag a + 1
mag-neg (pos zero) = omega arith
mag-neg (pos (suc a)) = omega arith
mag-neg (negsuc a) = omega arith

module _ (a b : ℤ) (f : mag a ≤ 4294967296) (g : mag b ≤ 4294967296) where
  sum_fits : SFits w64 (a +ℤ b)
  sum_fits = record { sfits = omega (arith, mag-add a b) }

  difference-fits : SFits w64 (a -ℤ b)
  difference-fits = record { sfits = omega (arith, mag-add a (neg_ℤ b), mag-neg b) }

-- ---- a charge of 32 bits, handed on and as a number of 64
abbrev handed : ℤ → ℤ
handed z = to_z w32 (of_z w32 z)

abbrev widened : ℤ → ℤ
widened z = to_z w64 (of_z w64 (handed z))

module _ {z : ℤ} (f : SFits w32 z) where
  pub wide_fits : SFits w64 (handed z)
  wide_fits = rw (to_z-of_z f) (sfits_widen tt f)

  widened_is : widened z ≡ z
  widened_is = to_z-of_z wide_fits ∙ to_z-of_z f

  small : mag z ≤ 4294967296
  small = omega (arith, f.sfits)

mag-size : (z : ℤ) → nat_abs z ≤ mag z + 1
mag-size (pos n) = omega arith
mag-size (negsuc n) = omega arith

-- a size that is told, and that it fits
abbrev Told : ℤ → ℤ → Type 0
Told r x = (r ≡ x) × SFits w64 r

-- ---- one law for each return of `shifted_target`
-- a small number read as signed
unsigned : (n : ℕ) → n ≤ 8589934592 → to_z w64 n ≡ pos n
unsigned n h = to_z_pos w64 (omega arith)

module _ (e : ℕ) {z : ℤ} (f : SFits w32 z) {t : ℕ} (i : t ≡ first_target e) where
  first_small : t ≤ 4
  first_small = omega (arith, first-within e)

  pub first_fits : SFits w64 (pos t)
  first_fits = record { sfits = omega (arith, first_small) }

  first_signed : to_z w64 t ≡ pos t
  first_signed = unsigned t (omega (arith, first_small))

  module _ {s : ℕ} (q : s ≡ nat_abs (handed z)) where
    g : s ≡ nat_abs z
    g = rw (to_z-of_z f) at q

    lessened : to_z w64 t -ℤ to_z w64 s ≡ pos (first_target e) -ℤ pos (nat_abs z)
    lessened = rw (first_signed, unsigned s (omega (arith, g, mag-size z, f.sfits)), g, i)

    pub lessened-fits : SFits w64 (to_z w64 t -ℤ to_z w64 s)
    lessened-fits = rw lessened (difference-fits (pos (first_target e)) (pos (nat_abs z)) (omega (arith, first-within e)) (omega (arith, mag-size z, f.sfits)))

    pub shifted-carbon : e ≡ 6 → to_z w64 (of_z w64 (to_z w64 t -ℤ to_z w64 s)) ≡ shifted_target e z
    unfolding shifted_target
    shifted-carbon h = rw (to_z-of_z lessened-fits) (lessened ∙ simp (eq-eqb e 6 h))

  raised : to_z w64 t +ℤ widened z ≡ pos (first_target e) +ℤ z
  raised = rw (first_signed, widened_is f, i)

  pub raised-fits : SFits w64 (to_z w64 t +ℤ widened z)
  raised-fits = rw raised (sum_fits (pos (first_target e)) z (omega (arith, first-within e)) (small f))

  pub shifted-other : (e ≡ 6 → ⊥) → to_z w64 (of_z w64 (to_z w64 t +ℤ widened z)) ≡ shifted_target e z
  unfolding shifted_target
  shifted-other h = rw (to_z-of_z raised-fits) (raised ∙ simp (ne_eqb e 6 h))

-- ---- one law for each return of `delocalized`
pub not_selected : (e selected : ℕ) (z : ℤ) (s h : ℕ) → (selected ≡ 1 → ⊥) → false ≡ delocalized e selected z s h
unfolding delocalized
not_selected e selected z s h n = simp (ne_eqb selected 1 n)

module _ (s h : ℕ) (f : Fits w32 s) (g : Fits w32 h) where
  both : to_z w64 s +ℤ to_z w64 h ≡ pos (s + h)
  both = rw (unsigned s (omega (arith, f.fits)), unsigned h (omega (arith, g.fits)))

  pub both-fits : SFits w64 (to_z w64 s +ℤ to_z w64 h)
  both-fits = rw both (record { sfits = omega (arith, f.fits, g.fits) })

  one_more : to_z w64 (of_z w64 (to_z w64 s +ℤ to_z w64 h)) +ℤ pos 1 ≡ pos (s + h + 1)
  one_more = rw (to_z-of_z both-fits, both)

  pub one-more-fits : SFits w64 (to_z w64 (of_z w64 (to_z w64 s +ℤ to_z w64 h)) +ℤ pos 1)
  one-more-fits = rw one_more (record { sfits = omega (arith, f.fits, g.fits) })

  pub by-target : (e selected : ℕ) {z r : ℤ} → SFits w32 z → selected ≡ 1 → Told r (shifted_target e (handed z)) → le_z (to_z w64 (of_z w64 (to_z w64 (of_z w64 (to_z w64 s +ℤ to_z w64 h)) +ℤ pos 1))) (to_z w64 (of_z w64 r)) ≡ delocalized e selected z s h
  unfolding delocalized
  by-target e selected c n t = rw (to_z-of_z one-more-fits, one_more, to_z-of_z t.1, t.0, to_z-of_z c) (simp n)

-- ---- 02, P1: "Nothing changes for uncharged atoms"
either : (t : Bool) (x : ℤ) → pick t x x ≡ x
either true x = refl
either false x = refl

pub uncharged-target : (e : ℕ) → shifted_target e (pos 0) ≡ pos (first_target e)
unfolding shifted_target
uncharged-target e = either (eqb e 6) (pos (first_target e) +ℤ pos 0) ∙ +ℤ_idr (pos (first_target e))

-- the rule of 01
pub uncharged : (e selected s h : ℕ) → delocalized e selected (pos 0) s h ≡ (eqb selected 1 && leb (s + h + 1) (first_target e))
unfolding delocalized
uncharged e selected s h = ap (λ (x : ℤ). eqb selected 1 && le_z (pos (s + h + 1)) x) (uncharged-target e)

-- "A target below zero is an answer, and such an atom is pruned"
below_none : (t : Bool) → (t && false) ≡ false
below_none true = refl
below_none false = refl

pub below-zero-pruned : (e selected : ℕ) (z : ℤ) (s h k : ℕ) → shifted_target e z ≡ negsuc k → delocalized e selected z s h ≡ false
unfolding delocalized
below-zero-pruned e selected z s h k i = rw i (below_none (eqb selected 1))
