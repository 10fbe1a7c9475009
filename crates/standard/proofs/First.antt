-- The first matching of a molecule that has one. Assumes nothing.
use Prim.Native.Nat.{ℕ, ◌-◌}
use mathlib.Core.Path.{◌≡◌, refl, sym, ap, subst, ◌∙◌}
use mathlib.Core.Bool.{Bool, true, ◌&&◌}
use mathlib.Core.List.{List, [], ◌∷◌}
use lib.ListN.{length, take, replicate}
use lib.IntN.{ℤ}
use lib.Seq.{take-append_seam}
use Rattle.loops.proofs.Loops.{and_left}
use Rattle.reading_grammar.proofs.Ends.{never}
use Rattle.matching.specs.Enumeration.{Row, is_row, matchings, fill, or_zeroed, row_call}
use Rattle.matching.specs.Model.{some?}
use Rattle.matching.specs.declared.MatchingAnswer.TheVariants.{Absent}
use Rattle.matching.specs.declared.Call.TheVariants.{First}
use Rattle.matching.proofs.Enumeration.{first-matching, row-length}
use Rattle.table_graph.specs.Graph.{matching_of, matchable}
use Rattle.kekule.specs.Kekule.{is_matching_of}

-- a matching that was filled in stands in the row up to the last bond
filled_is : (p : Row → Bool) (m len : ℕ) (r : Row) → (is_row m r && p r) ≡ true → (is_row m (take m (fill len r)) && p (take m (fill len r))) ≡ true
filled_is p m len r h =
    let l : length r ≡ m = row-length m r (and_left (is_row m r) (p r) h) in
    let e : take m (fill len r) ≡ r = ap (λ (k : ℕ). take k (fill len r)) (sym l) ∙ take-append_seam r (replicate (len - length r) 0) in
    subst (λ (x : Row). (is_row m x && p x) ≡ true) (sym e) h

pub first-is : (atoms bonds : List ℤ) (n m : ℕ) (row : List ℕ) → matchable atoms bonds n m ≡ true → is_matching_of atoms bonds n m (row_call (matching_of atoms bonds n m) m First row).row ≡ true
unfolding matchable row_call
first-is atoms bonds n m row h = go (matchings p m) refl h
  where
    p : Row → Bool
    p = matching_of atoms bonds n m

    go : (es : List Row) → matchings p m ≡ es → some? es ≡ true → (is_row m (take m (or_zeroed (length row) Absent es).row) && p (take m (or_zeroed (length row) Absent es).row)) ≡ true
    go [] e g = never g
    go (r ∷ es) e g = filled_is p m (length row) r (first-matching p m r es e).0
