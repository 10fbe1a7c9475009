-- A table that is zeroed from a cell on. Assumes nothing.
use Prim.Native.Nat.{ℕ, zero, suc, ◌+◌, ◌<◌, ◌≤◌}
use native.Mathlib.Omega.{arith}
use native.Mathlib.Numerals.{add-one}
use mathlib.Core.Path.{◌≡◌, refl, ap, ◌∙◌}
use mathlib.Core.List.{List, [], ◌∷◌}
use lib.ListN.{length, set, length-set}
use lib.IntN.{ℤ, pos}
use Rattle.reading_pieces.specs.Calls.{cleared_from}

-- what is left to zero leads to the same table
pub record Clearing (t₀ : List ℤ) (from i : ℕ) (t : List ℤ) : Type 0 where
  pub room : length t ≡ length t₀
  pub same : cleared_from from t₀ ≡ cleared_from i t

pub clearing-start : {t : List ℤ} {from : ℕ} → Clearing t from from t
clearing-start = record { room = refl; same = refl }

one_more : (i : ℕ) (t : List ℤ) → i < length t → cleared_from i t ≡ cleared_from (suc i) (set t i (pos 0))
one_more i [] h = absurd (omega arith)
one_more zero (x ∷ t) h = refl
one_more (suc i) (x ∷ t) h = ap (λ (l : List ℤ). x ∷ l) (one_more i t (omega arith))

none_left : (i : ℕ) (t : List ℤ) → length t ≤ i → t ≡ cleared_from i t
none_left zero [] h = refl
none_left (suc i) [] h = refl
none_left zero (x ∷ t) h = absurd (omega arith)
none_left (suc i) (x ∷ t) h = ap (λ (l : List ℤ). x ∷ l) (none_left i t (omega arith))

module _ {t₀ t : List ℤ} {from i : ℕ} (w : Clearing t₀ from i t) where
  pub clearing-step : i < length t₀ → Clearing t₀ from (i + 1) (set t i (pos 0))
  clearing-step h = record { room = length-set t i (pos 0) ∙ w.room; same = rw (add-one i) (w.same ∙ one_more i t (omega (arith, w.room))) }

  pub clearing-end : length t₀ ≤ i → t ≡ cleared_from from t₀
  clearing-end h = rw w.same (none_left i t (omega (arith, w.room)))
