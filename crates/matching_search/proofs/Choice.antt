-- Laws of a search from the bond k on: choosing the bond, and leaving it. Assumes nothing.
use mathlib.Core.Path.{◌≡◌, refl, sym, ap, subst, ◌∙◌}
use mathlib.Core.Bool.{Bool, true, false}
use mathlib.Core.List.{List, [], ◌∷◌, ◌++◌, map, append_assoc}
use Prim.Native.Nat.{ℕ, suc, ◌+◌, ◌-◌, ◌≤◌, ◌<◌}
use native.Mathlib.Omega.{arith}
use native.Mathlib.Numerals.{add-one}
use lib.ListN.{length, take, drop, set, replicate, drop_of_length-le, take-append-drop, length-append, length-replicate}
use lib.Seq.{drop-cons, take-suc-set, drop-set-lt, take_at, drop_at, length-take-le}
use Rattle.matching.specs.Graph.{Bond, none_flagged}
use Rattle.matching.specs.Enumeration.{Row, cons_if, matchings}
use Rattle.matching.specs.Model.{pairs_up, bonds_of, bonds_from, some?, head_or, Shape, Ends, written, Searched, all_from, table_bond, free_at, mark_at}
use Rattle.matching.proofs.Enumeration.{found}
use Rattle.matching.proofs.Graph.{matchings-bond, matchings-end}
use Rattle.matching_search.proofs.Flags.{restore}

-- the end of the bonds
cons_if-some : (b : Bool) → b ≡ some? (cons_if b [] [])
cons_if-some true = refl
cons_if-some false = refl

cons_if-head : (b : Bool) → head_or [] (cons_if b [] []) ≡ []
cons_if-head true = refl
cons_if-head false = refl

pub bonds-end : (ea eb el : List ℕ) (k : ℕ) → length ea ≤ k → bonds_from ea eb el k ≡ []
unfolding bonds_of
bonds-end ea eb el k h = rw (drop_of_length-le ea h)

all_end : (ea eb el need : List ℕ) (k : ℕ) → k ≡ length ea → all_from ea eb el need k ≡ cons_if (none_flagged need) [] []
all_end ea eb el need k h =
    let z : length ea - k ≡ 0 = omega arith in
    let b : bonds_from ea eb el k ≡ [] = bonds-end ea eb el k (omega arith) in
    rw (z, b) (matchings-end need)

pub at-end : {ea eb el need row : List ℕ} {k : ℕ} {r : Bool} → Shape ea eb el need row k → k ≡ length ea → r ≡ none_flagged need
    → Searched need row k (length ea) (all_from ea eb el need k) r need row
at-end {ea} {eb} {el} {need} {row} {k} s h e =
    let z : length ea - k ≡ 0 = omega arith in
    record {
      same = refl;
      told = e ∙ cons_if-some (none_flagged need) ∙ ap some? (sym (all_end ea eb el need k h));
      wrote = sym (ap (λ (l : List Row). take k row ++ (head_or (replicate (length ea - k) 0) l ++ drop (length ea) row)) (all_end ea eb el need k h)
          ∙ rw (z, cons_if-head (none_flagged need), ← h) (take-append-drop k row));
    }

-- one bond more
pub bonds-step : (ea eb el : List ℕ) (k : ℕ) → k < length ea → k < length eb → k < length el → bonds_from ea eb el k ≡ table_bond ea eb el k ∷ bonds_from ea eb el (k + 1)
unfolding bonds_of
bonds-step ea eb el k h i j = rw (add-one, drop-cons ea k 0 h, drop-cons eb k 0 i, drop-cons el k 0 j)

pub less_one : (m k : ℕ) → k < m → m - k ≡ suc (m - (k + 1))
less_one m k h = omega arith

pub all-step : (ea eb el need : List ℕ) (k : ℕ) (f : Bool) → k < length ea → k < length eb → k < length el → f ≡ free_at ea eb el need k
    → all_from ea eb el need k ≡ map (λ s. 1 ∷ s) (found f (all_from ea eb el (mark_at ea eb need k 0) (k + 1))) ++ map (λ s. 0 ∷ s) (all_from ea eb el need (k + 1))
all-step ea eb el need k f h i j e =
    ap (λ (l : List Bond). matchings (pairs_up l need) (length ea - k)) (bonds-step ea eb el k h i j)
    ∙ ap (matchings (pairs_up (table_bond ea eb el k ∷ bonds_from ea eb el (k + 1)) need)) (less_one (length ea) k h)
    ∙ matchings-bond (table_bond ea eb el k) (bonds_from ea eb el (k + 1)) need (length ea - (k + 1)) f (sym e)

-- a digit is written, and the rest
digit : (row X : Row) (k m x : ℕ) (fs : List Row) (row' : Row) → take k X ≡ take k row → drop m X ≡ drop m row → k < length X → k < m
    → row' ≡ written (k + 1) (set X k x) m fs → row' ≡ take k row ++ ((x ∷ head_or (replicate (m - (k + 1)) 0) fs) ++ drop m row)
digit row X k m x fs row' t d h l e =
    e ∙ ap (λ (n : ℕ). take n (set X k x) ++ (head_or (replicate (m - (k + 1)) 0) fs ++ drop m (set X k x))) (add-one k)
    ∙ rw (take-suc-set X k x h, drop-set-lt m X k x l, t, d) (append_assoc (take k row) (x ∷ []) (head_or (replicate (m - (k + 1)) 0) fs ++ drop m row))

head-map : (x m k : ℕ) (fs : List Row) → some? fs ≡ true → (gs : List Row) → head_or (replicate (m - k) 0) (map (λ s. x ∷ s) fs ++ gs) ≡ x ∷ head_or (replicate (m - (k + 1)) 0) fs
head-map x m k [] h gs = cc
head-map x m k (f ∷ fs) h gs = refl

some-map : (x : ℕ) (fs gs : List Row) → some? fs ≡ true → true ≡ some? (map (λ s. x ∷ s) fs ++ gs)
some-map x [] gs h = cc
some-map x (f ∷ fs) gs h = refl

pub none-map : (x : ℕ) (fs gs : List Row) → some? fs ≡ false → map (λ s. x ∷ s) fs ++ gs ≡ gs
none-map x [] gs h = refl
none-map x (f ∷ fs) gs h = cc

some-zero : (fs : List Row) → some? fs ≡ some? (map (λ s. 0 ∷ s) fs)
some-zero [] = refl
some-zero (f ∷ fs) = refl

head-zero : (m k : ℕ) (fs : List Row) → k < m → 0 ∷ head_or (replicate (m - (k + 1)) 0) fs ≡ head_or (replicate (m - k) 0) (map (λ s. 0 ∷ s) fs)
head-zero m k [] h = rw (less_one m k h)
head-zero m k (f ∷ fs) h = refl

-- a matching was found behind a chosen bond
pub with-one : (need row : List ℕ) (k m : ℕ) (f1 f0 : List Row) (r : Bool) (mid need1 row1 need2 : List ℕ) → k < length row → k < m
    → Searched mid (set row k 1) (k + 1) m f1 r need1 row1 → r ≡ true → need2 ≡ need
    → Searched need row k m (map (λ s. 1 ∷ s) f1 ++ map (λ s. 0 ∷ s) f0) true need2 row1
with-one need row k m f1 f0 r mid need1 row1 need2 h l s e n =
    let q : some? f1 ≡ true = sym s.told ∙ e in
    record {
      same = n;
      told = some-map 1 f1 (map (λ s. 0 ∷ s) f0) q;
      wrote = digit row row k m 1 f1 row1 refl refl h l s.wrote
          ∙ ap (λ (u : Row). take k row ++ (u ++ drop m row)) (sym (head-map 1 m k f1 q (map (λ s. 0 ∷ s) f0)));
    }

-- none was found behind a chosen bond, or it could not be chosen: the bond is left
pub with-zero : (need row X : List ℕ) (k m : ℕ) (f0 : List Row) (r : Bool) (need' row' : List ℕ) → take k X ≡ take k row → drop m X ≡ drop m row → k < length X → k < m
    → Searched need (set X k 0) (k + 1) m f0 r need' row' → Searched need row k m (map (λ s. 0 ∷ s) f0) r need' row'
with-zero need row X k m f0 r need' row' t d h l s = record {
  same = s.same;
  told = s.told ∙ some-zero f0;
  wrote = digit row X k m 0 f0 row' t d h l s.wrote ∙ ap (λ (u : Row). take k row ++ (u ++ drop m row)) (head-zero m k f0 l);
}

-- a row that a search left with none found
head-none : (z : Row) (fs : List Row) → some? fs ≡ false → head_or z fs ≡ z
head-none z [] h = refl
head-none z (f ∷ fs) h = cc

left_as : (row : Row) (k m : ℕ) (f1 : List Row) (row1 : Row) → k < length row → k < m → some? f1 ≡ false → row1 ≡ written (k + 1) (set row k 1) m f1
    → row1 ≡ take k row ++ ((1 ∷ replicate (m - (k + 1)) 0) ++ drop m row)
left_as row k m f1 row1 h l q e = digit row row k m 1 f1 row1 refl refl h l e ∙ ap (λ (u : Row). take k row ++ ((1 ∷ u) ++ drop m row)) (head-none (replicate (m - (k + 1)) 0) f1 q)

pub left-front : (row : Row) (k m : ℕ) (f1 : List Row) (row1 : Row) → k < length row → k < m → some? f1 ≡ false → row1 ≡ written (k + 1) (set row k 1) m f1 → take k row1 ≡ take k row
left-front row k m f1 row1 h l q e = ap (take k) (left_as row k m f1 row1 h l q e) ∙ take_at (take k row) _ k (length-take-le k row (omega arith))

pub left_back : (row : Row) (k m : ℕ) (f1 : List Row) (row1 : Row) → k < length row → k < m → some? f1 ≡ false → row1 ≡ written (k + 1) (set row k 1) m f1 → drop m row1 ≡ drop m row
left_back row k m f1 row1 h l q e =
    let n : length (take k row ++ (1 ∷ replicate (m - (k + 1)) 0)) ≡ m =
    length-append (take k row) (1 ∷ replicate (m - (k + 1)) 0) ∙ rw (length-take-le k row (omega arith), length-replicate) (omega arith) in
    ap (drop m) (left_as row k m f1 row1 h l q e ∙ sym (append_assoc (take k row) (1 ∷ replicate (m - (k + 1)) 0) (drop m row)))
    ∙ drop_at (take k row ++ (1 ∷ replicate (m - (k + 1)) 0)) (drop m row) m n

-- a search at the bond k, from what the calls in it ensure
module _ {ea eb el need row : List ℕ} {k : ℕ} (s : Shape ea eb el need row k) (more : k ≡ length ea → ⊥) where
  pub here : k < length ea
  here = omega (arith, s.upto)

  pub here2 : k < length eb
  here2 = omega (arith, s.upto, s.second)

  pub here3 : k < length el
  here3 = omega (arith, s.upto, s.third)

  pub in_row : k < length row
  in_row = omega (arith, s.upto, s.room)

  -- what the calls ask
  pub shape-next : {need' row' : List ℕ} → length need' ≡ length need → length row' ≡ length row → Shape ea eb el need' row' (k + 1)
  shape-next n r = record {
    second = s.second;
    third = s.third;
    room = omega (arith, s.room);
    upto = omega (arith, s.upto);
    ends1 = λ j i. rw n (s.ends1 j i);
    ends2 = λ j i. rw n (s.ends2 j i);
  }

  pub ends-here : {need' : List ℕ} → length need' ≡ length need → Ends ea eb need' k
  ends-here n = record { first = here; second = here2; end1 = rw n (s.ends1 k here); end2 = rw n (s.ends2 k here) }

  steps : (f : Bool) → f ≡ free_at ea eb el need k
      → all_from ea eb el need k ≡ map (λ s. 1 ∷ s) (found f (all_from ea eb el (mark_at ea eb need k 0) (k + 1))) ++ map (λ s. 0 ∷ s) (all_from ea eb el need (k + 1))
  steps f e = all-step ea eb el need k f here here2 here3 e

  -- the bond was chosen: mid are the flags then, need1 and row1 what the search behind it left, need2 the flags put back
  module _ {f : Bool} (free-is : f ≡ free_at ea eb el need k) (taken : f ≡ true) {mid : List ℕ} (marked : mid ≡ mark_at ea eb need k 0)
      {r : Bool} {need1 row1 need2 : List ℕ} (one : Searched mid (set row k 1) (k + 1) (length ea) (all_from ea eb el mid (k + 1)) r need1 row1)
      (unmarked : need2 ≡ mark_at ea eb need1 k 1) where
    back : need2 ≡ need
    back = unmarked ∙ ap (λ (l : List ℕ). mark_at ea eb l k 1) (one.same ∙ marked) ∙ restore ea eb el need k (sym free-is ∙ taken)

    pub found-one : r ≡ true → Searched need row k (length ea) (all_from ea eb el need k) true need2 row1
    found-one e = subst (λ (fs : List Row). Searched need row k (length ea) fs true need2 row1) (sym (steps true (sym taken ∙ free-is)))
        (subst (λ (l : List ℕ). Searched need row k (length ea) (map (λ s. 1 ∷ s) (all_from ea eb el l (k + 1)) ++ map (λ s. 0 ∷ s) (all_from ea eb el need (k + 1))) true need2 row1) marked
        (with-one need row k (length ea) (all_from ea eb el mid (k + 1)) (all_from ea eb el need (k + 1)) r mid need1 row1 need2 in_row here one e back))

    pub then-zero : r ≡ false → length row1 ≡ length row → {q : Bool} {need3 row3 : List ℕ}
        → Searched need2 (set row1 k 0) (k + 1) (length ea) (all_from ea eb el need2 (k + 1)) q need3 row3
        → Searched need row k (length ea) (all_from ea eb el need k) q need3 row3
    then-zero e n {q} {need3} {row3} two =
        let none : some? (all_from ea eb el mid (k + 1)) ≡ false = sym one.told ∙ e in
        let none' : some? (all_from ea eb el (mark_at ea eb need k 0) (k + 1)) ≡ false = ap (λ (l : List ℕ). some? (all_from ea eb el l (k + 1))) (sym marked) ∙ none in
        subst (λ (fs : List Row). Searched need row k (length ea) fs q need3 row3)
        (sym (steps true (sym taken ∙ free-is) ∙ none-map 1 (all_from ea eb el (mark_at ea eb need k 0) (k + 1)) _ none'))
        (with-zero need row row1 k (length ea) (all_from ea eb el need (k + 1)) q need3 row3
        (left-front row k (length ea) (all_from ea eb el mid (k + 1)) row1 in_row here none one.wrote)
        (left_back row k (length ea) (all_from ea eb el mid (k + 1)) row1 in_row here none one.wrote)
        (rw n in_row) here
        (subst (λ (l : List ℕ). Searched l (set row1 k 0) (k + 1) (length ea) (all_from ea eb el l (k + 1)) q need3 row3) back two))

  -- the bond cannot be chosen
  pub not_free : {f : Bool} → f ≡ free_at ea eb el need k → f ≡ false → {q : Bool} {need3 row3 : List ℕ}
      → Searched need (set row k 0) (k + 1) (length ea) (all_from ea eb el need (k + 1)) q need3 row3 → Searched need row k (length ea) (all_from ea eb el need k) q need3 row3
  not_free e n {q} {need3} {row3} two = subst (λ (fs : List Row). Searched need row k (length ea) fs q need3 row3) (sym (steps false (sym n ∙ e)))
      (with-zero need row row k (length ea) (all_from ea eb el need (k + 1)) q need3 row3 refl refl in_row here two)
