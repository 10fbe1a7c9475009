-- What a withdraw and a cut one leave: their lengths, and what is listed then. Assumes nothing.
use Prim.Native.Nat.{ℕ, suc, ◌≤◌, ◌<◌}
use mathlib.Core.Path.{◌≡◌, refl, sym, ap, ◌∙◌}
use mathlib.Core.Bool.{Bool, true, false}
use mathlib.Core.Logic.{◌⊎◌, inl, inr}
use mathlib.Core.List.{List, [], ◌∷◌}
use lib.ListN.{length}
use lib.Dec.{ltb}
use borrow.Author.Tests.{ltb-true}
use Rattle.register.specs.Layout.{size, listed_of}
use Rattle.register.specs.Adding.{steps, after_with, added_after}
use Rattle.register.specs.Answers.{stepped_of}
use Rattle.register.specs.Calls.{cut_after, add_to}
use Rattle.register.proofs.Paths.{Way, way-short, way-invalid, way-full, way-done, way}
use Rattle.register.proofs.Plain.{cut_short, cut-invalid, cut-full, cut-done, cut-length, add_is, cut-is, added_is}
use Rattle.register.proofs.Runs.{step-runs}
use Rattle.withdrawal.specs.Withdrawal.{accepted, withdraw_of}
use Rattle.withdrawal_lists.specs.Lists.{Call, withdrawing, cutting, cut_of, leaves, leaves_all, withdraw_to}

module _ (r : List ℕ) (t : ℕ) (s : List ℕ) where
  cut-refused : (k : ℕ) → accepted s ≡ false → cut_of r t s k ≡ r
  unfolding cut_of
  cut-refused k e = rw e

  cut-accepted : (k : ℕ) → accepted s ≡ true → cut_of r t s k ≡ cut_after r t s k
  unfolding cut_of
  cut-accepted k e = rw e

  whole_by : (short fine : Bool) → ltb (length r) size ≡ short → accepted s ≡ fine → (withdraw_of r t s).register ≡ cut_of r t s (steps (length s))
  unfolding withdraw_of
  whole_by true true h e = rw h (sym (cut-accepted (steps (length s)) e ∙ cut_short r t s (steps (length s)) (ltb-true (length r) size h)))
  whole_by true false h e = rw h (sym (cut-refused (steps (length s)) e))
  whole_by false true h e = rw (h, e) (add_is r t s ∙ sym (cut-accepted (steps (length s)) e))
  whole_by false false h e = rw (h, e) (sym (cut-refused (steps (length s)) e))

  -- a withdraw is all its steps
  pub withdraw-is : (withdraw_of r t s).register ≡ cut_of r t s (steps (length s))
  withdraw-is = whole_by (ltb (length r) size) (accepted s) refl refl

  -- before its first step the register is as it was
  none_after : added_after r t s 0 ≡ r
  unfolding after_with
  none_after = refl

  none-by : Way r (length s) → cut_after r t s 0 ≡ r
  none-by (way-short h) = cut_short r t s 0 h
  none-by (way-invalid h e) = cut-invalid r t s 0 h e
  none-by (way-full h e f) = cut-full r t s 0 h e f
  none-by (way-done h e f) = cut-done r t s 0 h e f ∙ none_after

  cut-none-by : (fine : Bool) → accepted s ≡ fine → cut_of r t s 0 ≡ r
  cut-none-by true e = cut-accepted 0 e ∙ none-by (way r (length s))
  cut-none-by false e = cut-refused 0 e

  pub cut-none : cut_of r t s 0 ≡ r
  cut-none = cut-none-by (accepted s) refl

  -- and of an accepted text each step is that of adding
  pub cut_step : (k : ℕ) → accepted s ≡ true → (stepped_of (cut_of r t s k) t s k).register ≡ cut_of r t s (suc k)
  cut_step k e = ap (λ (z : List ℕ). (stepped_of z t s k).register) (cut-accepted k e) ∙ step-runs r t s k ∙ sym (cut-accepted (suc k) e)

  cut-length-by : (k : ℕ) (fine : Bool) → accepted s ≡ fine → length (cut_of r t s k) ≡ length r
  cut-length-by k true e = ap length (cut-accepted k e) ∙ cut-length r t s k
  cut-length-by k false e = ap length (cut-refused k e)

  cut-kept : (k : ℕ) → length (cut_of r t s k) ≡ length r
  cut-kept k = cut-length-by k (accepted s) refl

  module _ (full : size ≤ length r) (two : t < 65536) where
    to-accepted : accepted s ≡ true → add_to t s (listed_of r) ≡ withdraw_to t s (listed_of r)
    to-accepted e = rw e

    to-refused : accepted s ≡ false → listed_of r ≡ withdraw_to t s (listed_of r)
    to-refused e = rw e

    whole-list-by : (fine : Bool) → accepted s ≡ fine → listed_of (withdraw_of r t s).register ≡ withdraw_to t s (listed_of r)
    whole-list-by true e = ap listed_of (withdraw-is ∙ cut-accepted (steps (length s)) e ∙ sym (add_is r t s)) ∙ added_is r full t s two ∙ to-accepted e
    whole-list-by false e = ap listed_of (withdraw-is ∙ cut-refused (steps (length s)) e) ∙ to-refused e

    -- what a withdraw lists
    pub whole-list : listed_of (withdraw_of r t s).register ≡ withdraw_to t s (listed_of r)
    whole-list = whole-list-by (accepted s) refl

    cut-list-by : (k : ℕ) (fine : Bool) → accepted s ≡ fine → (listed_of (cut_of r t s k) ≡ listed_of r) ⊎ (listed_of (cut_of r t s k) ≡ withdraw_to t s (listed_of r))
    cut-list-by k false e = inl (ap listed_of (cut-refused k e))
    cut-list-by k true e = go (cut-is r full t s two k)
      where
        go : (listed_of (cut_after r t s k) ≡ listed_of r) ⊎ (listed_of (cut_after r t s k) ≡ add_to t s (listed_of r)) → (listed_of (cut_of r t s k) ≡ listed_of r) ⊎ (listed_of (cut_of r t s k) ≡ withdraw_to t s (listed_of r))
        go (inl d) = inl (ap listed_of (cut-accepted k e) ∙ d)
        go (inr d) = inr (ap listed_of (cut-accepted k e) ∙ d ∙ to-accepted e)

    -- and a cut one
    pub cut_list : (k : ℕ) → (listed_of (cut_of r t s k) ≡ listed_of r) ⊎ (listed_of (cut_of r t s k) ≡ withdraw_to t s (listed_of r))
    cut_list k = cut-list-by k (accepted s) refl

-- lengths
pub leaves-length : (c : Call) (r : List ℕ) → length (leaves c r) ≡ length r
leaves-length (withdrawing t s) r = ap length (withdraw-is r t s) ∙ cut-kept r t s (steps (length s))
leaves-length (cutting t s k) r = cut-kept r t s k

pub all-length : (cs : List Call) (r : List ℕ) → length (leaves_all cs r) ≡ length r
unfolding leaves_all
all-length [] r = refl
all-length (c ∷ cs) r = all-length cs (leaves c r) ∙ leaves-length c r
