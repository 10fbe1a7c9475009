-- Laws of the loop that looks whether a row is a matching: what is left to look at decides. Assumes nothing.
use mathlib.Core.Path.{◌≡◌, refl, sym, ap, ◌∙◌}
use mathlib.Core.Bool.{Bool, true, false}
use mathlib.Core.List.{List}
use Prim.Native.Nat.{ℕ, ◌+◌, ◌<◌, ◌≤◌}
use native.Mathlib.Omega.{arith}
use lib.ListN.{length, get_or}
use Rattle.matching.specs.Graph.{none_flagged}
use Rattle.matching.specs.Model.{Shape, Ends, matching_from, part, free_at, mark_at}
use Rattle.matching_search.proofs.Choice.{here3, ends-here, shape-next}
use Rattle.matching_search.proofs.Check.{matching-end, matching-zero, matching-one, matching-other, matching-not}

-- the loop stands at the bond k, with the flags need
pub record Fitting (ea eb el need₀ row : List ℕ) (k : ℕ) (need : List ℕ) : Type 0 where
  pub shape : Shape ea eb el need row k
  pub long : length need ≡ length need₀
  pub same : matching_from ea eb el need₀ (part (length ea) row 0) 0 ≡ matching_from ea eb el need (part (length ea) row k) k

pub fitting-start : {ea eb el need row : List ℕ} → Shape ea eb el need row 0 → Fitting ea eb el need row 0 need
fitting-start s = record { shape = s; long = refl; same = refl }

module _ {ea eb el need₀ row : List ℕ} {k : ℕ} {need : List ℕ} (w : Fitting ea eb el need₀ row k need) where
  abbrev whole : Bool
  whole = matching_from ea eb el need₀ (part (length ea) row 0) 0

  pub fitting-end : length ea ≤ k → {r : Bool} → r ≡ none_flagged need → r ≡ whole
  fitting-end h e = e ∙ sym (w.same ∙ matching-end w.shape (omega (arith, w.shape.upto)))

  module _ (h : k < length ea) where
    before-end : k ≡ length ea → ⊥
    before-end e = omega arith

    -- what the calls ask
    pub fitting-ends : Ends ea eb need k
    fitting-ends = ends-here w.shape before-end refl

    pub fitting-elided : k < length el
    fitting-elided = here3 w.shape before-end

    pub fitting-zero : get_or row k 0 ≡ 0 → {need' : List ℕ} → need' ≡ need → Fitting ea eb el need₀ row (k + 1) need'
    fitting-zero g e = rw e record { shape = shape-next w.shape before-end refl refl; long = w.long; same = w.same ∙ matching-zero w.shape before-end g }

    pub fitting-other : (get_or row k 0 ≡ 0 → ⊥) → (get_or row k 0 ≡ 1 → ⊥) → false ≡ whole
    fitting-other g i = sym (w.same ∙ matching-other w.shape before-end g i)

    module _ {f : Bool} (free-is : f ≡ free_at ea eb el need k) (one : get_or row k 0 ≡ 1) where
      pub fitting-not : f ≡ false → false ≡ whole
      fitting-not n = sym (w.same ∙ matching-not w.shape before-end free-is n one)

      pub fitting-one : f ≡ true → {mid need' : List ℕ} → mid ≡ mark_at ea eb need k 0 → length mid ≡ length need → need' ≡ mid → Fitting ea eb el need₀ row (k + 1) need'
      fitting-one t {mid} m l e =
          rw e record {
            shape = shape-next w.shape before-end l refl;
            long = l ∙ w.long;
            same = w.same ∙ matching-one w.shape before-end free-is t one ∙ ap (λ (n : List ℕ). matching_from ea eb el n (part (length ea) row (k + 1)) (k + 1)) (sym m);
          }
