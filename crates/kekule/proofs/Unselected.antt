-- A molecule with no selected atom: its one matching is all 0, so the first call gives a zeroed row, and a row is a matching if it is all 0. Assumes nothing.
use Prim.Native.Nat.{ℕ, ◌+◌, ◌-◌, ◌<◌, ◌≤◌}
use native.Mathlib.Omega.{arith}
use mathlib.Core.Path.{◌≡◌, sym, ap, ◌∙◌}
use mathlib.Core.Bool.{Bool, true, ◌&&◌}
use mathlib.Core.List.{List, [], ◌∷◌}
use borrow.Author.Tests.{eq-eqb, eqb-true}
use lib.ListN.{length, take, get_or, replicate, length-replicate, get_or-replicate, replicate-append-replicate}
use lib.Seq.{get_or-take, length-take-le, ext_get_or}
use lib.IntN.{ℤ}
use lib.Dec.{eqb}
use Rattle.loops.proofs.Loops.{each_at, each_all}
use Rattle.matching.specs.Enumeration.{Row, matchings, Reply, fill, zeroed, or_zeroed, is_row, row_call}
use Rattle.matching.specs.declared.MatchingAnswer.TheVariants.{Given, Absent}
use Rattle.matching.specs.declared.Call.TheVariants.{First}
use Rattle.matching.proofs.Graph.{same_bool}
use Rattle.matching.proofs.Listing.{row_at, passes_at, place_of}
use Rattle.table_graph.specs.Graph.{none_selected, matching_of}
use Rattle.table_graph.proofs.Localized.{unselected-one}
use Rattle.kekule.specs.Kekule.{all_zero, is_matching_of}

-- zeros up to the last bond and zeros after it
zeros-filled : (m len : ℕ) → m ≤ len → fill len (replicate m 0) ≡ replicate len 0
zeros-filled m len l =
    let e : length (replicate {A = ℕ} m 0) ≡ m = length-replicate m 0 in
    let d : m + (len - length (replicate {A = ℕ} m 0)) ≡ len = omega arith in
    replicate-append-replicate {A = ℕ} m (len - length (replicate {A = ℕ} m 0)) 0 ∙ ap (λ (k : ℕ). replicate k 0) d

-- cells that are all 0 are a row of zeros
module _ (m : ℕ) (row : List ℕ) (l : m ≤ length row) where
  zero-cells : all_zero m row ≡ true → take m row ≡ replicate m 0
  unfolding all_zero
  zero-cells h =
      let t : length (take m row) ≡ m = length-take-le m row l in
      ext_get_or 0 (take m row) (replicate m 0) (t ∙ sym (length-replicate m 0))
      (λ j b.
      let k : j < m = omega arith in
      get_or-take m row j 0 k ∙ eqb-true (get_or row j 0) 0 (each_at (λ b. eqb (get_or row b 0) 0) m j h k) ∙ sym (get_or-replicate m j 0 0 k))

  cells-zero : take m row ≡ replicate m 0 → all_zero m row ≡ true
  unfolding all_zero
  cells-zero e =
      each_all (λ b. eqb (get_or row b 0) 0) m
      (λ j k. eq-eqb (get_or row j 0) 0 (sym (get_or-take m row j 0 k) ∙ ap (λ (r : List ℕ). get_or r j 0) e ∙ get_or-replicate m j 0 0 k))

  -- where the list of matchings is a row of zeros alone, the row is a matching if it is all 0
  only-zeros : (p : Row → Bool) → matchings p m ≡ replicate m 0 ∷ [] → all_zero m row ≡ (is_row m (take m row) && p (take m row))
  only-zeros p h = same_bool (all_zero m row) (is_row m (take m row) && p (take m row)) there back
    where
      there : all_zero m row ≡ true → (is_row m (take m row) && p (take m row)) ≡ true
      there z = rw (zero-cells z) (passes_at m (replicate m 0 ∷ []) p h 0 (omega arith))

      back : (is_row m (take m row) && p (take m row)) ≡ true → all_zero m row ≡ true
      back z =
          let w = place_of p m (take m row) z in
          let i : w.0 ≡ 0 = omega (arith, w.1, ap length h) in
          cells-zero (sym w.2 ∙ ap (λ (es : List Row). row_at es w.0) h ∙ ap (row_at (replicate m 0 ∷ [])) i)

module _ (atoms bonds : List ℤ) (n m : ℕ) (row : List ℕ) (h : none_selected atoms n ≡ true) (l : m ≤ length row) where
  pub unselected-first : {g : Reply} → g ≡ zeroed (length row) Given → g ≡ row_call (matching_of atoms bonds n m) m First row
  unfolding row_call
  unselected-first e =
      e ∙ sym (ap (or_zeroed (length row) Absent) (unselected-one atoms bonds n m h) ∙ ap (λ (r : Row). record { answer = Given; row = r }) (zeros-filled m (length row) l))

  pub unselected-matching : all_zero m row ≡ is_matching_of atoms bonds n m row
  unselected-matching = only-zeros m row l (matching_of atoms bonds n m) (unselected-one atoms bonds n m h)
