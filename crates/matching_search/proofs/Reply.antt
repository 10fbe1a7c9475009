-- Clearing a row, and the whole reply of the two calls. Assumes nothing.
use mathlib.Core.Path.{◌≡◌, refl, sym, ap, subst, ◌∙◌}
use mathlib.Core.Bool.{Bool, true, false, ◌&&◌}
use mathlib.Core.List.{List, [], ◌∷◌, ◌++◌}
use Prim.Native.Nat.{ℕ, ◌+◌, ◌-◌, ◌≤◌}
use native.Mathlib.Omega.{arith}
use lib.ListN.{length, take, drop, replicate, length-replicate, replicate-append-replicate}
use lib.Seq.{take_at}
use Rattle.loops.specs.Loop.{pick}
use Rattle.loops.proofs.Loops.{and_left}
use Rattle.matching.specs.Graph.{is_matching}
use Rattle.matching.specs.Enumeration.{Row, matchings, is_row, before, or_zeroed, zeroed, row_first, row_next}
use Rattle.matching.specs.declared.MatchingAnswer.{MatchingAnswer}
use Rattle.matching.specs.declared.MatchingAnswer.TheVariants.{Given, Absent, Refused, Ended}
use Rattle.matching.specs.Model.{part, matching_from, bonds_of, some?, head_or, Shape, Searched, all_from, later_from, reply}
use Rattle.matching.proofs.Enumeration.{first-matching, row-length}
use Rattle.matching.proofs.Graph.{matching-pairs}

-- the whole row after a search from 0, cleared behind the last bond
replicates : (a b : ℕ) → replicate a 0 ++ replicate b 0 ≡ replicate {A = ℕ} (a + b) 0
replicates a b = replicate-append-replicate {A = ℕ} a b 0

abbrev pub told-as : Bool → MatchingAnswer → MatchingAnswer
told-as true a = Given
told-as false a = a

finish : (fs : List Row) (m n : ℕ) (a : MatchingAnswer) (row row1 row2 : Row) → ((e : Row) (es : List Row) → fs ≡ e ∷ es → length e ≡ m) → m ≤ n → length row1 ≡ n
    → row1 ≡ head_or (replicate m 0) fs ++ drop m row → row2 ≡ take m row1 ++ replicate (length row1 - m) 0 → reply (told-as (some? fs) a) row2 ≡ or_zeroed n a fs
finish [] m n a row row1 row2 l h k w c =
    let t : take m row1 ≡ replicate m 0 = ap (take m) w ∙ take_at (replicate m 0) (drop m row) m (length-replicate m 0) in
    let z : m + (n - m) ≡ n = omega arith in
    ap (reply a) (c ∙ rw (t, k) (replicates m (n - m) ∙ ap (λ (x : ℕ). replicate {A = ℕ} x 0) z))
finish (e ∷ es) m n a row row1 row2 l h k w c =
    let t : take m row1 ≡ e = ap (take m) w ∙ take_at e (drop m row) m (l e es refl) in
    ap (reply Given) (c ∙ rw (t, k, l e es refl))

matching-long : (p : Row → Bool) (m : ℕ) (e : Row) (es : List Row) → matchings p m ≡ e ∷ es → length e ≡ m
matching-long p m e es h = row-length m e (and_left (is_row m e) (p e) (first-matching p m e es h).0)

sub-zero : (m : ℕ) → m - 0 ≡ m
sub-zero m = omega arith

all-zero : (ea eb el need : List ℕ) → all_from ea eb el need 0 ≡ matchings (is_matching need (bonds_of ea eb el)) (length ea)
all-zero ea eb el need = rw (sub-zero (length ea), matching-pairs need (bonds_of ea eb el))

later-all : (ea eb el need row : List ℕ)
    → later_from ea eb el need (part (length ea) row 0) 0 ≡ matchings (λ s. is_matching need (bonds_of ea eb el) s && before (take (length ea) row) s) (length ea)
later-all ea eb el need row = rw (sub-zero (length ea), matching-pairs need (bonds_of ea eb el))

pub matching-all : (ea eb el need row : List ℕ) → matching_from ea eb el need (part (length ea) row 0) 0 ≡ (is_row (length ea) (take (length ea) row) && is_matching need (bonds_of ea eb el) (take (length ea) row))
matching-all ea eb el need row = rw (sub-zero (length ea), matching-pairs need (bonds_of ea eb el))

searched-row : (need row : List ℕ) (m : ℕ) (fs : List Row) (r : Bool) (need' row' : List ℕ) → Searched need row 0 m fs r need' row' → row' ≡ head_or (replicate m 0) fs ++ drop m row
searched-row need row m fs r need' row' s = s.wrote ∙ rw (sub-zero m)

-- row1 is the row that the search left, row2 the same cleared behind the last bond
module _ {ea eb el need row : List ℕ} (s : Shape ea eb el need row 0) {r : Bool} {need1 row1 row2 : List ℕ} (long : length row1 ≡ length row)
    (cleared : row2 ≡ take (length ea) row1 ++ replicate (length row1 - length ea) 0) where
  pub first-reply : Searched need row 0 (length ea) (all_from ea eb el need 0) r need1 row1 → {b : Bool} → r ≡ b → reply (told-as b Absent) row2 ≡ row_first (is_matching need (bonds_of ea eb el)) (length ea) (length row)
  first-reply h t =
      ap (λ (b : Bool). reply (told-as b Absent) row2) (sym t ∙ h.told ∙ ap some? (all-zero ea eb el need))
      ∙ finish (matchings (is_matching need (bonds_of ea eb el)) (length ea)) (length ea) (length row) Absent row row1 row2 (matching-long (is_matching need (bonds_of ea eb el)) (length ea)) s.room long
      (searched-row need row (length ea) (all_from ea eb el need 0) r need1 row1 h ∙ ap (λ (fs : List Row). head_or (replicate (length ea) 0) fs ++ drop (length ea) row) (all-zero ea eb el need)) cleared

  pub next-reply : matching_from ea eb el need (part (length ea) row 0) 0 ≡ true → {mid : List ℕ} → mid ≡ need
      → Searched mid row 0 (length ea) (later_from ea eb el mid (part (length ea) row 0) 0) r need1 row1 → {b : Bool} → r ≡ b
      → reply (told-as b Ended) row2 ≡ row_next (is_matching need (bonds_of ea eb el)) (length ea) (length row) (take (length ea) row)
  next-reply was same k t =
      let h : Searched need row 0 (length ea) (later_from ea eb el need (part (length ea) row 0) 0) r need1 row1 =
      subst (λ (l : List ℕ). Searched l row 0 (length ea) (later_from ea eb el l (part (length ea) row 0) 0) r need1 row1) same k in
      let fs : List Row = matchings (λ s. is_matching need (bonds_of ea eb el) s && before (take (length ea) row) s) (length ea) in
      ap (λ (b : Bool). reply (told-as b Ended) row2) (sym t ∙ h.told ∙ ap some? (later-all ea eb el need row))
      ∙ finish fs (length ea) (length row) Ended row row1 row2 (matching-long (λ s. is_matching need (bonds_of ea eb el) s && before (take (length ea) row) s) (length ea)) s.room long
      (searched-row need row (length ea) (later_from ea eb el need (part (length ea) row 0) 0) r need1 row1 h ∙ ap (λ (gs : List Row). head_or (replicate (length ea) 0) gs ++ drop (length ea) row) (later-all ea eb el need row)) cleared
      ∙ ap (λ (b : Bool). pick b (or_zeroed (length row) Ended fs) (zeroed (length row) Refused)) (sym (sym (matching-all ea eb el need row) ∙ was))

-- the row is no matching
pub refused-reply : {ea eb el need row row2 : List ℕ} → Shape ea eb el need row 0 → matching_from ea eb el need (part (length ea) row 0) 0 ≡ false → row2 ≡ take 0 row ++ replicate (length row - 0) 0
    → reply Refused row2 ≡ row_next (is_matching need (bonds_of ea eb el)) (length ea) (length row) (take (length ea) row)
refused-reply {ea} {eb} {el} {need} {row} s n c =
    ap (reply Refused) (c ∙ rw (sub-zero (length row)))
    ∙ ap (λ (b : Bool). pick b (or_zeroed (length row) Ended (matchings (λ s. is_matching need (bonds_of ea eb el) s && before (take (length ea) row) s) (length ea))) (zeroed (length row) Refused)) (sym (sym (matching-all ea eb el need row) ∙ n))

-- what the search for the next asks, with the flags as the check left them
pub shape_at : {ea eb el need row mid : List ℕ} {k : ℕ} → mid ≡ need → Shape ea eb el need row k → Shape ea eb el mid row k
shape_at {ea} {eb} {el} {row = row} {k = k} e s = subst (λ (l : List ℕ). Shape ea eb el l row k) (sym e) s

pub matching-at : {ea eb el need row mid : List ℕ} → Shape ea eb el need row 0 → mid ≡ need → matching_from ea eb el need (part (length ea) row 0) 0 ≡ true → matching_from ea eb el mid (part (length ea) row 0) 0 ≡ true
matching-at s e h = rw e h
