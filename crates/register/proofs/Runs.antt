-- The call `step`: it changes at most one byte, and adding is its run. Assumes nothing.
use Prim.Native.Nat.{ℕ, suc, ◌≤◌, ◌<◌}
use native.Mathlib.Omega.{arith}
use mathlib.Core.Path.{◌≡◌, sym, ap, ◌∙◌}
use mathlib.Core.Bool.{true, false}
use mathlib.Core.Logic.{◌⊎◌, inl, inr}
use mathlib.Core.List.{List}
use lib.ListN.{length, get_or}
use Rattle.register.specs.Layout.{size, count, valid, used}
use Rattle.register.specs.Adding.{fits, steps, place_of, step_of, added_after}
use Rattle.register.specs.Answers.{stepped_of}
use Rattle.register.specs.Calls.{cut_after}
use Rattle.register.proofs.Rules.{valid-is}
use Rattle.register.proofs.Stores.{lt-or-le, step-one, step-out, after-length}
use Rattle.register.proofs.PowerCut.{fits-is, steps-are, valid-before, fits-before}
use Rattle.register.proofs.Paths.{adding-short, adding-invalid, adding-full, adding-done, Way, way-short, way-invalid, way-full, way-done, way}
use Rattle.register.proofs.Plain.{cut_short, cut-invalid, cut-full, cut-done}

-- what a step leaves, by the ways of adding
module _ (r : List ℕ) (t : ℕ) (b : List ℕ) (k : ℕ) where
  step-short : length r < size → (stepped_of r t b k).register ≡ r
  unfolding stepped_of
  step-short h = sym (ap (λ o. o.register) (adding-short r (length b) (step_of t b k r) h))

  step-invalid : size ≤ length r → valid r ≡ false → (stepped_of r t b k).register ≡ r
  unfolding stepped_of
  step-invalid h e = sym (ap (λ o. o.register) (adding-invalid r (length b) (step_of t b k r) h e))

  step-full : size ≤ length r → valid r ≡ true → fits r (length b) ≡ false → (stepped_of r t b k).register ≡ r
  unfolding stepped_of
  step-full h e f = sym (ap (λ o. o.register) (adding-full r (length b) (step_of t b k r) h e f))

  step-done : size ≤ length r → valid r ≡ true → fits r (length b) ≡ true → (stepped_of r t b k).register ≡ step_of t b k r
  unfolding stepped_of
  step-done h e f = sym (ap (λ o. o.register) (adding-done r (length b) (step_of t b k r) h e f))

  one-by : (i : ℕ) → (place_of (count r) (used r) (length b) k ≡ i → ⊥) → Way r (length b) → get_or (stepped_of r t b k).register i 0 ≡ get_or r i 0
  one-by i h (way-short l) = ap (λ x. get_or x i 0) (step-short l)
  one-by i h (way-invalid l e) = ap (λ x. get_or x i 0) (step-invalid l e)
  one-by i h (way-full l e f) = ap (λ x. get_or x i 0) (step-full l e f)
  one-by i h (way-done l e f) = ap (λ x. get_or x i 0) (step-done l e f) ∙ step-one (count r) (used r) t b k r i h

  -- A STEP CHANGES AT MOST ONE BYTE: the one at place_of, on any register
  pub step-one-byte : (i : ℕ) → (place_of (count r) (used r) (length b) k ≡ i → ⊥) → get_or (stepped_of r t b k).register i 0 ≡ get_or r i 0
  step-one-byte i h = one-by i h (way r (length b))

  past_by : steps (length b) ≤ k → Way r (length b) → (stepped_of r t b k).register ≡ r
  past_by h (way-short l) = step-short l
  past_by h (way-invalid l e) = step-invalid l e
  past_by h (way-full l e f) = step-full l e f
  past_by h (way-done l e f) = step-done l e f ∙ step-out (count r) (used r) t b k r h

  -- past the last step nothing changes
  pub step_past : steps (length b) ≤ k → (stepped_of r t b k).register ≡ r
  step_past h = past_by h (way r (length b))

module _ (r : List ℕ) (t : ℕ) (b : List ℕ) (k : ℕ) where
  runs_done : size ≤ length r → valid r ≡ true → fits r (length b) ≡ true → (k < steps (length b)) ⊎ (steps (length b) ≤ k) → (stepped_of (added_after r t b k) t b k).register ≡ added_after r t b (suc k)
  runs_done l e f (inl h) =
      step-done (added_after r t b k) t b k (omega (arith, after-length (count r) (used r) t b r k))
      (valid-before r t b l (valid-is r e) (fits-is r (length b) f) k h ∙ e) (fits-before r t b l (valid-is r e) (fits-is r (length b) f) k h ∙ f)
      ∙ steps-are r t b l (valid-is r e) (fits-is r (length b) f) k
  runs_done l e f (inr h) =
      step_past (added_after r t b k) t b k h
      ∙ sym (step-out (count (added_after r t b k)) (used (added_after r t b k)) t b k (added_after r t b k) h)
      ∙ steps-are r t b l (valid-is r e) (fits-is r (length b) f) k

  runs_by : Way r (length b) → (stepped_of (cut_after r t b k) t b k).register ≡ cut_after r t b (suc k)
  runs_by (way-short l) = ap (λ x. (stepped_of x t b k).register) (cut_short r t b k l) ∙ step-short r t b k l ∙ sym (cut_short r t b (suc k) l)
  runs_by (way-invalid l e) = ap (λ x. (stepped_of x t b k).register) (cut-invalid r t b k l e) ∙ step-invalid r t b k l e ∙ sym (cut-invalid r t b (suc k) l e)
  runs_by (way-full l e f) = ap (λ x. (stepped_of x t b k).register) (cut-full r t b k l e f) ∙ step-full r t b k l e f ∙ sym (cut-full r t b (suc k) l e f)
  runs_by (way-done l e f) =
      ap (λ x. (stepped_of x t b k).register) (cut-done r t b k l e f)
      ∙ runs_done l e f (lt-or-le k (steps (length b)))
      ∙ sym (cut-done r t b (suc k) l e f)

  -- ADDING IS THE RUN OF THE STEP: the call of step k on what k steps left gives what k + 1 steps leave, on any register
  pub step-runs : (stepped_of (cut_after r t b k) t b k).register ≡ cut_after r t b (suc k)
  step-runs = runs_by (way r (length b))
