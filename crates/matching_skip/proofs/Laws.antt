-- Laws of the search for the next matching that differs from the row before a bond: the row is one, and what comes after it is looked for. Assumes nothing.
use mathlib.Core.Path.{◌≡◌, refl, sym, ap, subst, ◌∙◌}
use mathlib.Core.Bool.{Bool, true, false, ◌&&◌}
use mathlib.Core.List.{List, [], ◌∷◌, ◌++◌, map}
use Prim.Native.Nat.{ℕ, suc, ◌+◌, ◌-◌, ◌≤◌, ◌<◌}
use native.Mathlib.Omega.{arith}
use lib.ListN.{length, get_or, set, take, drop, replicate, length-replicate, replicate-append-replicate}
use lib.Seq.{set-get_or, take-take, take_at}
use Rattle.loops.proofs.Loops.{and_left}
use Rattle.matching.specs.Graph.{Bond, is_matching}
use Rattle.matching.specs.Enumeration.{Row, rows, matchings, before, is_row, or_zeroed}
use Rattle.matching.specs.declared.MatchingAnswer.TheVariants.{Ended}
use Rattle.matching.specs.Model.{pairs_up, part, matching_from, bonds_from, bonds_of, some?, head_or, Shape, written, Searched, all_from, later_from, table_bond, free_at, mark_at}
use Rattle.matching.proofs.Enumeration.{after, after_one, after-zero, passing-same, passing-none, first-matching, row-length}
use Rattle.matching.proofs.Graph.{matching-pairs}
use Rattle.matching_search.proofs.Flags.{restore}
use Rattle.matching_search.proofs.Choice.{less_one, bonds-step, none-map, with-one, with-zero, left-front, left_back, here, here2, here3, in_row}
use Rattle.matching_search.proofs.Check.{part_step, matching-free}
use Rattle.matching_search.proofs.Reply.{matching-all}
use Rattle.matching_skip.specs.Skip.{later_than, Skipped}

-- the row from k up to the bond `to`
abbrev pub up_to : ℕ → Row → ℕ → ℕ → Row
up_to m row to k = take (to - k) (part m row k)

-- a bond in front of `to` is a bond
pub in-front : {k to m : ℕ} → k ≤ to → to ≤ m → (k ≡ to → ⊥) → k ≡ m → ⊥
in-front low high n e = n (omega arith)

pub none_below : {to : ℕ} → 0 ≤ to
none_below = omega arith

pub next_low : {k to : ℕ} → k ≤ to → (k ≡ to → ⊥) → k + 1 ≤ to
next_low low n = omega arith

module _ {ea eb el need row : List ℕ} {k to : ℕ} (s : Shape ea eb el need row k) (low : k ≤ to) (high : to ≤ length ea) (n : k ≡ to → ⊥) where
  abbrev more : k ≡ length ea → ⊥
  more = in-front low high n

  abbrev rest : Row
  rest = up_to (length ea) row to (k + 1)

  up-to-step : up_to (length ea) row to k ≡ get_or row k 0 ∷ rest
  up-to-step =
      let below : k < to = omega arith in
      ap (take (to - k)) (part_step (length ea) row k (here s more) (in_row s more))
      ∙ ap (λ (j : ℕ). take j (get_or row k 0 ∷ part (length ea) row (k + 1))) (less_one to k below)

  later-step : (x : ℕ) → get_or row k 0 ≡ x
      → later_from ea eb el need (up_to (length ea) row to k) k ≡ matchings (after (pairs_up (table_bond ea eb el k ∷ bonds_from ea eb el (k + 1)) need) (x ∷ rest)) (suc (length ea - (k + 1)))
  later-step x g =
      ap (λ (r : Row). later_from ea eb el need r k) up-to-step
      ∙ ap (λ (n : ℕ). matchings (after (pairs_up (bonds_from ea eb el k) need) (get_or row k 0 ∷ rest)) n) (less_one (length ea) k (here s more))
      ∙ ap (λ (l : List Bond). matchings (after (pairs_up l need) (get_or row k 0 ∷ rest)) (suc (length ea - (k + 1))))
      (bonds-step ea eb el k (here s more) (here2 s more) (here3 s more))
      ∙ ap (λ (y : ℕ). matchings (after (pairs_up (table_bond ea eb el k ∷ bonds_from ea eb el (k + 1)) need) (y ∷ rest)) (suc (length ea - (k + 1)))) g

  later-one : free_at ea eb el need k ≡ true → get_or row k 0 ≡ 1
      → later_from ea eb el need (up_to (length ea) row to k) k
      ≡ map (λ s. 1 ∷ s) (later_from ea eb el (mark_at ea eb need k 0) rest (k + 1)) ++ map (λ s. 0 ∷ s) (all_from ea eb el need (k + 1))
  unfolding pairs_up
  later-one f g = later-step 1 g ∙ after_one (pairs_up (table_bond ea eb el k ∷ bonds_from ea eb el (k + 1)) need) (length ea - (k + 1)) rest ∙ rw f

  later-zero : get_or row k 0 ≡ 0 → later_from ea eb el need (up_to (length ea) row to k) k ≡ map (λ s. 0 ∷ s) (later_from ea eb el need rest (k + 1))
  unfolding pairs_up
  later-zero g = later-step 0 g ∙ after-zero (pairs_up (table_bond ea eb el k ∷ bonds_from ea eb el (k + 1)) need) (length ea - (k + 1)) rest

  -- the ways of `later`
  same-digit : (x : ℕ) → get_or row k 0 ≡ x → row ≡ set row k x
  same-digit x g = sym (set-get_or row k 0) ∙ ap (set row k) g

  pub skipped : get_or row k 0 ≡ 0 → {q : Bool} {need3 row3 : List ℕ} → Searched need row (k + 1) (length ea) (later_from ea eb el need rest (k + 1)) q need3 row3
      → Searched need row k (length ea) (later_from ea eb el need (up_to (length ea) row to k) k) q need3 row3
  skipped g {q} {need3} {row3} two = subst (λ (fs : List Row). Searched need row k (length ea) fs q need3 row3) (sym (later-zero g))
      (with-zero need row row k (length ea) (later_from ea eb el need rest (k + 1)) q need3 row3 refl refl (in_row s more) (here s more)
      (subst (λ (X : Row). Searched need X (k + 1) (length ea) (later_from ea eb el need rest (k + 1)) q need3 row3) (same-digit 0 g) two))

  module _ (one : get_or row k 0 ≡ 1) (was : matching_from ea eb el need (part (length ea) row k) k ≡ true) {mid : List ℕ} (marked : mid ≡ mark_at ea eb need k 0)
      {r : Bool} {need1 row1 need2 : List ℕ} (deep : Searched mid row (k + 1) (length ea) (later_from ea eb el mid rest (k + 1)) r need1 row1)
      (unmarked : need2 ≡ mark_at ea eb need1 k 1) where
    again : need2 ≡ need
    again = unmarked ∙ ap (λ (l : List ℕ). mark_at ea eb l k 1) (deep.same ∙ marked) ∙ restore ea eb el need k (matching-free s more one was)

    deep' : Searched mid (set row k 1) (k + 1) (length ea) (later_from ea eb el mid rest (k + 1)) r need1 row1
    deep' = subst (λ (X : Row). Searched mid X (k + 1) (length ea) (later_from ea eb el mid rest (k + 1)) r need1 row1) (same-digit 1 one) deep

    pub later-found : r ≡ true → Searched need row k (length ea) (later_from ea eb el need (up_to (length ea) row to k) k) true need2 row1
    later-found e = subst (λ (fs : List Row). Searched need row k (length ea) fs true need2 row1) (sym (later-one (matching-free s more one was) one))
        (subst (λ (l : List ℕ). Searched need row k (length ea) (map (λ s. 1 ∷ s) (later_from ea eb el l rest (k + 1)) ++ map (λ s. 0 ∷ s) (all_from ea eb el need (k + 1))) true need2 row1) marked
        (with-one need row k (length ea) (later_from ea eb el mid rest (k + 1)) (all_from ea eb el need (k + 1)) r mid need1 row1 need2
        (in_row s more) (here s more) deep' e again))

    pub later-then : r ≡ false → length row1 ≡ length row → {q : Bool} {need3 row3 : List ℕ} → Searched need2 (set row1 k 0) (k + 1) (length ea) (all_from ea eb el need2 (k + 1)) q need3 row3
        → Searched need row k (length ea) (later_from ea eb el need (up_to (length ea) row to k) k) q need3 row3
    later-then e n {q} {need3} {row3} two =
        let none : some? (later_from ea eb el mid rest (k + 1)) ≡ false = sym deep'.told ∙ e in
        let none' : some? (later_from ea eb el (mark_at ea eb need k 0) rest (k + 1)) ≡ false = ap (λ (l : List ℕ). some? (later_from ea eb el l rest (k + 1))) (sym marked) ∙ none in
        let in' = in_row s more in
        let here' = here s more in
        subst (λ (fs : List Row). Searched need row k (length ea) fs q need3 row3)
        (sym (later-one (matching-free s more one was) one ∙ none-map 1 (later_from ea eb el (mark_at ea eb need k 0) rest (k + 1)) _ none'))
        (with-zero need row row1 k (length ea) (all_from ea eb el need (k + 1)) q need3 row3
        (left-front row k (length ea) (later_from ea eb el mid rest (k + 1)) row1 in' here' none deep'.wrote)
        (left_back row k (length ea) (later_from ea eb el mid rest (k + 1)) row1 in' here' none deep'.wrote)
        (rw n in') here'
        (subst (λ (l : List ℕ). Searched l (set row1 k 0) (k + 1) (length ea) (all_from ea eb el l (k + 1)) q need3 row3) again two))

-- at the bond `to` nothing of the row is left to differ from
and-false : (b : Bool) → (b && false) ≡ false
and-false true = refl
and-false false = refl

none_after : (p : Row → Bool) (m : ℕ) → matchings (after p []) m ≡ []
unfolding before
none_after p m = passing-same (after p []) (λ s. false) (λ s. and-false (p s)) (rows m) ∙ passing-none (rows m)

pub later-stops : {ea eb el need row row1 : List ℕ} {k to : ℕ} → Shape ea eb el need row k → k ≡ to → row1 ≡ take k row ++ (replicate (length ea - k) 0 ++ drop (length ea) row)
    → Searched need row k (length ea) (later_from ea eb el need (up_to (length ea) row to k) k) false need row1
later-stops {ea} {eb} {el} {need} {row} {row1} {k} {to} s h w =
    let z : to - k ≡ 0 = omega arith in
    let e : later_from ea eb el need (up_to (length ea) row to k) k ≡ [] = rw z (none_after (pairs_up (bonds_from ea eb el k) need) (length ea - k)) in
    record { same = refl; told = sym (ap some? e); wrote = w ∙ sym (ap (λ (l : List Row). written k row (length ea) l) e) }

-- the whole row
finish : (fs : List Row) (m n : ℕ) (row row1 row2 : Row) → ((e : Row) (es : List Row) → fs ≡ e ∷ es → length e ≡ m) → m ≤ n → length row1 ≡ n
    → row1 ≡ head_or (replicate m 0) fs ++ drop m row → row2 ≡ take m row1 ++ replicate (length row1 - m) 0 → row2 ≡ (or_zeroed n Ended fs).row
finish [] m n row row1 row2 l h k w c =
    let t : take m row1 ≡ replicate m 0 = ap (take m) w ∙ take_at (replicate m 0) (drop m row) m (length-replicate m 0) in
    let z : m + (n - m) ≡ n = omega arith in
    c ∙ rw (t, k) (replicate-append-replicate {A = ℕ} m (n - m) 0 ∙ ap (λ (x : ℕ). replicate {A = ℕ} x 0) z)
finish (e ∷ es) m n row row1 row2 l h k w c =
    let t : take m row1 ≡ e = ap (take m) w ∙ take_at e (drop m row) m (l e es refl) in
    c ∙ rw (t, k, l e es refl)

matching-long : (p : Row → Bool) (m : ℕ) (e : Row) (es : List Row) → matchings p m ≡ e ∷ es → length e ≡ m
matching-long p m e es h = row-length m e (and_left (is_row m e) (p e) (first-matching p m e es h).0)

less_zero : (m : ℕ) → m - 0 ≡ m
less_zero m = omega arith

later-all : (ea eb el need row : List ℕ) (to : ℕ) → to ≤ length ea
    → later_from ea eb el need (up_to (length ea) row to 0) 0 ≡ later_than (is_matching need (bonds_of ea eb el)) (length ea) to row
later-all ea eb el need row to h = rw (less_zero (length ea), less_zero to, take-take to (length ea) row h, matching-pairs need (bonds_of ea eb el))

searched-row : {need row : List ℕ} {m : ℕ} {fs : List Row} {r : Bool} {need1 row1 : List ℕ} → Searched need row 0 m fs r need1 row1 → row1 ≡ head_or (replicate m 0) fs ++ drop m row
searched-row {m = m} k = k.wrote ∙ rw (less_zero m)

pub matching-from : {ea eb el need row : List ℕ} → Shape ea eb el need row 0 → (is_row (length ea) (take (length ea) row) && is_matching need (bonds_of ea eb el) (take (length ea) row)) ≡ true
    → matching_from ea eb el need (part (length ea) row 0) 0 ≡ true
matching-from {ea} {eb} {el} {need} {row} s h = matching-all ea eb el need row ∙ h

-- row1 is the row that the search left, row2 the same cleared behind the last bond
pub skipped-all : {ea eb el need row : List ℕ} {to : ℕ} {r : Bool} {need1 row1 row2 : List ℕ} → Shape ea eb el need row 0 → to ≤ length ea → length row1 ≡ length row
    → row2 ≡ take (length ea) row1 ++ replicate (length row1 - length ea) 0 → Searched need row 0 (length ea) (later_from ea eb el need (up_to (length ea) row to 0) 0) r need1 row1
    → Skipped (later_than (is_matching need (bonds_of ea eb el)) (length ea) to row) (length row) r row2
skipped-all {ea} {eb} {el} {need} {row} {to} {r} {need1} {row1} {row2} s h long cleared k =
    let fs : List Row = later_than (is_matching need (bonds_of ea eb el)) (length ea) to row in
    let p : Row → Bool = λ s. is_matching need (bonds_of ea eb el) s && before (take to row) s in
    let all : later_from ea eb el need (up_to (length ea) row to 0) 0 ≡ fs = later-all ea eb el need row to h in
    record {
      told = k.told ∙ ap some? all;
      wrote = finish fs (length ea) (length row) row row1 row2 (matching-long p (length ea)) s.room long
          (searched-row k ∙ ap (λ (gs : List Row). head_or (replicate (length ea) 0) gs ++ drop (length ea) row) all) cleared;
    }
