-- Laws of the search for the next matching: the row is one, and what comes after it is looked for. Assumes nothing.
use mathlib.Core.Path.{◌≡◌, refl, sym, ap, subst, ◌∙◌}
use mathlib.Core.Bool.{Bool, true, false, ◌&&◌}
use mathlib.Core.List.{List, [], ◌∷◌, ◌++◌, map}
use Prim.Native.Nat.{ℕ, suc, ◌+◌, ◌-◌}
use native.Mathlib.Omega.{arith}
use lib.ListN.{length, get_or, set, take-append-drop}
use lib.Seq.{set-get_or}
use Rattle.matching.specs.Graph.{Bond}
use Rattle.matching.specs.Enumeration.{Row, rows, passing, cons_if, matchings, before}
use Rattle.matching.specs.Model.{pairs_up, part, matching_from, bonds_from, some?, Shape, written, Searched, all_from, later_from, table_bond, free_at, mark_at}
use Rattle.matching.proofs.Enumeration.{after, after_one, after-zero}
use Rattle.matching_search.proofs.Flags.{restore}
use Rattle.matching_search.proofs.Choice.{less_one, bonds-end, bonds-step, none-map, with-one, with-zero, left-front, left_back, here, here2, here3, in_row}
use Rattle.matching_search.proofs.Check.{part_step, matching-free}

module _ {ea eb el need row : List ℕ} {k : ℕ} (s : Shape ea eb el need row k) (more : k ≡ length ea → ⊥) where
  abbrev rest : Row
  rest = part (length ea) row (k + 1)

  later-step : (x : ℕ) → get_or row k 0 ≡ x
      → later_from ea eb el need (part (length ea) row k) k ≡ matchings (after (pairs_up (table_bond ea eb el k ∷ bonds_from ea eb el (k + 1)) need) (x ∷ rest)) (suc (length ea - (k + 1)))
  later-step x g =
      ap (λ (r : Row). later_from ea eb el need r k) (part_step (length ea) row k (here s more) (in_row s more))
      ∙ ap (λ (n : ℕ). matchings (after (pairs_up (bonds_from ea eb el k) need) (get_or row k 0 ∷ rest)) n) (less_one (length ea) k (here s more))
      ∙ ap (λ (l : List Bond). matchings (after (pairs_up l need) (get_or row k 0 ∷ rest)) (suc (length ea - (k + 1))))
      (bonds-step ea eb el k (here s more) (here2 s more) (here3 s more))
      ∙ ap (λ (y : ℕ). matchings (after (pairs_up (table_bond ea eb el k ∷ bonds_from ea eb el (k + 1)) need) (y ∷ rest)) (suc (length ea - (k + 1)))) g

  later-one : free_at ea eb el need k ≡ true → get_or row k 0 ≡ 1
      → later_from ea eb el need (part (length ea) row k) k
      ≡ map (λ s. 1 ∷ s) (later_from ea eb el (mark_at ea eb need k 0) rest (k + 1)) ++ map (λ s. 0 ∷ s) (all_from ea eb el need (k + 1))
  unfolding pairs_up
  later-one f g = later-step 1 g ∙ after_one (pairs_up (table_bond ea eb el k ∷ bonds_from ea eb el (k + 1)) need) (length ea - (k + 1)) rest ∙ rw f

  later-zero : get_or row k 0 ≡ 0 → later_from ea eb el need (part (length ea) row k) k ≡ map (λ s. 0 ∷ s) (later_from ea eb el need rest (k + 1))
  unfolding pairs_up
  later-zero g = later-step 0 g ∙ after-zero (pairs_up (table_bond ea eb el k ∷ bonds_from ea eb el (k + 1)) need) (length ea - (k + 1)) rest

  -- the ways of `later`
  same-digit : (x : ℕ) → get_or row k 0 ≡ x → row ≡ set row k x
  same-digit x g = sym (set-get_or row k 0) ∙ ap (set row k) g

  pub skipped : get_or row k 0 ≡ 0 → {q : Bool} {need3 row3 : List ℕ} → Searched need row (k + 1) (length ea) (later_from ea eb el need rest (k + 1)) q need3 row3
      → Searched need row k (length ea) (later_from ea eb el need (part (length ea) row k) k) q need3 row3
  skipped g {q} {need3} {row3} two = subst (λ (fs : List Row). Searched need row k (length ea) fs q need3 row3) (sym (later-zero g))
      (with-zero need row row k (length ea) (later_from ea eb el need rest (k + 1)) q need3 row3 refl refl (in_row s more) (here s more)
      (subst (λ (X : Row). Searched need X (k + 1) (length ea) (later_from ea eb el need rest (k + 1)) q need3 row3) (same-digit 0 g) two))

  module _ (one : get_or row k 0 ≡ 1) (was : matching_from ea eb el need (part (length ea) row k) k ≡ true) {mid : List ℕ} (marked : mid ≡ mark_at ea eb need k 0)
      {r : Bool} {need1 row1 need2 : List ℕ} (deep : Searched mid row (k + 1) (length ea) (later_from ea eb el mid rest (k + 1)) r need1 row1)
      (unmarked : need2 ≡ mark_at ea eb need1 k 1) where
    pub again : need2 ≡ need
    again = unmarked ∙ ap (λ (l : List ℕ). mark_at ea eb l k 1) (deep.same ∙ marked) ∙ restore ea eb el need k (matching-free s more one was)

    deep' : Searched mid (set row k 1) (k + 1) (length ea) (later_from ea eb el mid rest (k + 1)) r need1 row1
    deep' = subst (λ (X : Row). Searched mid X (k + 1) (length ea) (later_from ea eb el mid rest (k + 1)) r need1 row1) (same-digit 1 one) deep

    pub later-found : r ≡ true → Searched need row k (length ea) (later_from ea eb el need (part (length ea) row k) k) true need2 row1
    later-found e = subst (λ (fs : List Row). Searched need row k (length ea) fs true need2 row1) (sym (later-one (matching-free s more one was) one))
        (subst (λ (l : List ℕ). Searched need row k (length ea) (map (λ s. 1 ∷ s) (later_from ea eb el l rest (k + 1)) ++ map (λ s. 0 ∷ s) (all_from ea eb el need (k + 1))) true need2 row1) marked
        (with-one need row k (length ea) (later_from ea eb el mid rest (k + 1)) (all_from ea eb el need (k + 1)) r mid need1 row1 need2
        (in_row s more) (here s more) deep' e again))

    pub later-then : r ≡ false → length row1 ≡ length row → {q : Bool} {need3 row3 : List ℕ} → Searched need2 (set row1 k 0) (k + 1) (length ea) (all_from ea eb el need2 (k + 1)) q need3 row3
        → Searched need row k (length ea) (later_from ea eb el need (part (length ea) row k) k) q need3 row3
    later-then e n {q} {need3} {row3} two =
        let none : some? (later_from ea eb el mid rest (k + 1)) ≡ false = sym deep'.told ∙ e in
        let none' : some? (later_from ea eb el (mark_at ea eb need k 0) rest (k + 1)) ≡ false = ap (λ (l : List ℕ). some? (later_from ea eb el l rest (k + 1))) (sym marked) ∙ none in
        let in' = in_row s more in
        let here' = here s more in
        subst (λ (fs : List Row). Searched need row k (length ea) fs q need3 row3)
        (sym (later-one (matching-free s more one was) one ∙ none-map 1 (later_from ea eb el (mark_at ea eb need k 0) rest (k + 1)) _ none'))
        (with-zero need row row1 k (length ea) (all_from ea eb el need (k + 1)) q need3 row3
        (left-front row k (length ea) (later_from ea eb el mid rest (k + 1)) row1 in' here' none deep'.wrote)
        (left_back row k (length ea) (later_from ea eb el mid rest (k + 1)) row1 in' here' none deep'.wrote)
        (rw n in') here'
        (subst (λ (l : List ℕ). Searched l (set row1 k 0) (k + 1) (length ea) (all_from ea eb el l (k + 1)) q need3 row3) again two))

after-end : (p : Row → Bool) → matchings (after p []) 0 ≡ []
unfolding rows passing before
after-end p = go (p [])
  where
    go : (b : Bool) → cons_if (b && false) [] [] ≡ []
    go true = refl
    go false = refl

pub later-end : {ea eb el need row : List ℕ} {k : ℕ} → Shape ea eb el need row k → k ≡ length ea → Searched need row k (length ea) (later_from ea eb el need (part (length ea) row k) k) false need row
later-end {ea} {eb} {el} {need} {row} {k} s h =
    let z : length ea - k ≡ 0 = omega arith in
    let e : later_from ea eb el need (part (length ea) row k) k ≡ [] = rw (z, bonds-end ea eb el k (omega arith)) (after-end (pairs_up [] need)) in
    record {
      same = refl;
      told = sym (ap some? e);
      wrote = sym (ap (λ (l : List Row). written k row (length ea) l) e ∙ rw (z, ← h) (take-append-drop k row));
    }
