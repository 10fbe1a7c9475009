-- The answers depend on what is listed alone: two registers of full length that list the same have the same answers. Assumes nothing.
use Prim.Native.Nat.{ℕ, ◌≤◌, ◌<◌}
use native.Mathlib.Omega.{arith}
use mathlib.Core.Path.{◌≡◌, refl, sym, ap, subst, ◌∙◌}
use mathlib.Core.Bool.{Bool, true}
use mathlib.Core.List.{List}
use lib.ListN.{length}
use borrow.Author.Tests.{le-ltb}
use Rattle.table.proofs.Keys.{never}
use Rattle.register.specs.Layout.{size, count, valid, listed_of}
use Rattle.redrawing.specs.Redrawn.{Redrawn}
use Rattle.withdrawal.specs.declared.verdict.Verdict.{Verdict}
use Rattle.withdrawal.specs.Withdrawal.{accepted, drawn, Drawings, is_listed, is_unsure, Place, nowhere, at, first_of, WithdrawnOut, answers, of_listed, judged_by, True, Open, Answered}
use Rattle.withdrawal.proofs.First.{Found, found}
use Rattle.withdrawal_lists.specs.Lists.{SameAnswers}
use Rattle.withdrawal_lists.proofs.Listing.{valid-alike, count-alike, tag-alike, body_alike}

module _ (r z : List ℕ) (same : listed_of r ≡ listed_of z) (right : valid r ≡ true) where
  -- the same verdicts give the same answer
  tag-told : (f : ℕ → Bool) (y o : Place) → Found f (count r) y → of_listed r y o ≡ of_listed z y o
  tag-told f nowhere o w = refl
  tag-told f (at p) o w = ap (λ (t : ℕ). answers 1 t p) (tag-alike r z same right p w.0)

  judged-alike : (v : ℕ → Verdict) → judged_by v r ≡ judged_by v z
  unfolding judged_by
  judged-alike v =
      tag-told (λ p. is_listed (v p)) (first_of (λ p. is_listed (v p)) (count r)) (first_of (λ p. is_unsure (v p)) (count r)) (found (λ p. is_listed (v p)) (count r))
      ∙ ap (λ (n : ℕ). of_listed z (first_of (λ p. is_listed (v p)) n) (first_of (λ p. is_unsure (v p)) n)) (count-alike r z same right)

  -- and they are true of both
  below : (p : ℕ) → p < count z → p < count r
  below p l = omega (arith, l, count-alike r z same right)

  true-alike : (q : List ℕ) (v : ℕ → Verdict) → True r q v → True z q v
  true-alike q v w =
      record {
        yes = λ p l e. subst (λ (b : List ℕ). Drawings b q) (body_alike r z same right p (below p l)) (w.yes p (below p l) e);
        no = λ p l e. subst (λ (b : List ℕ). (accepted b ≡ true) × (Redrawn (drawn b) (drawn q) → ⊥)) (body_alike r z same right p (below p l)) (w.no p (below p l) e);
      }

module _ (r z : List ℕ) (same : listed_of r ≡ listed_of z) (full : size ≤ length r) (long : size ≤ length z) where
  valid-too : valid z ≡ true → valid r ≡ true
  valid-too e = valid-alike r z same ∙ e

  answered-alike : (q : List ℕ) (out : WithdrawnOut) → Answered r q out → Answered z q out
  answered-alike q out w =
      record {
        short = λ h. never (sym (le-ltb (length z) size long) ∙ h);
        invalid = λ h e. w.invalid (le-ltb (length r) size full) (valid-alike r z same ∙ e);
        unread = λ h e a. w.unread (le-ltb (length r) size full) (valid-too e) a;
        judged = λ h e a. let j = w.judged (le-ltb (length r) size full) (valid-too e) a in
            record {
              verdict = j.verdict;
              true_verdicts = true-alike r z same (valid-too e) q j.verdict j.true_verdicts;
              is = j.is ∙ judged-alike r z same (valid-too e) j.verdict;
              undecided = λ f. let u = j.undecided f in
                  (omega (arith, u.0, count-alike r z same (valid-too e)), subst (λ (b : List ℕ). Open b q) (body_alike r z same (valid-too e) out.entry u.0) u.1);
            };
      }

-- THE LAW: what is listed decides what may be answered
pub listed-answers : (r z : List ℕ) → listed_of r ≡ listed_of z → size ≤ length r → size ≤ length z → SameAnswers r z
listed-answers r z same full long =
    record {
      forth = λ q out w. answered-alike r z same full long q out w;
      back = λ q out w. answered-alike z r (sym same) long full q out w;
    }
