-- Laws of the search for the next matching, with forcing at every turn. Assumes nothing.
use mathlib.Core.Path.{◌≡◌, refl, sym, ap, subst, ◌∙◌}
use mathlib.Core.Bool.{Bool, true, false, ◌&&◌}
use mathlib.Core.List.{List, [], ◌∷◌, ◌++◌}
use Prim.Native.Nat.{ℕ, zero, suc, ◌-◌, ◌<◌, ◌≤◌}
use native.Mathlib.Omega.{arith}
use lib.Dec.{eqb}
use lib.ListN.{length, take, drop, get_or, set, replicate, length-replicate, take-append-drop}
use lib.Seq.{ext_get_or, get_or-set_same, set-set, set-get_or, take-set-lt, drop-set-lt, drop_at, get_or-take}
use borrow.Author.Tests.{eqb-true, eq-eqb, ne_eqb}
use Rattle.loops.proofs.Loops.{and_left, and_right, repeated-at}
use Rattle.matching.specs.Enumeration.{Row, is_row, matchings, before}
use Rattle.matching.specs.Graph.{Bond, is_matching, nth_bond, set_of}
use Rattle.matching.specs.Model.{Shape, Searched, free, mark_at, bonds_of, some?, written}
use Rattle.matching.proofs.Enumeration.{row-length, before_self}
use Rattle.matching.proofs.Graph.{and_intro, not-true, never}
use Rattle.matching.proofs.Claims.{row-is-set}
use Rattle.matching_forced.specs.Forced.{forces, forced_bond, forced_from, pair_at}
use Rattle.matching_forced.specs.Steps.{ones, zeros, off, lowest_free, pair_all, left_of, later_of, later_with, is_of, Chosen, Filled, Roomy}
use Rattle.matching_forced.proofs.Counts.{lowest-least}
use Rattle.matching_forced.proofs.Forced.{forced-below, forced-free, forced-in}
use Rattle.matching_forced.proofs.Turns.{turn, left, by-turns, forced-pair, forced-none}
use Rattle.matching_forced.proofs.Rows.{matchings-at, matchings-same, matchings-never, and-true, and-false, cell-zero, set-row, row-long, paired_same}
use Rattle.matching_forced.proofs.After.{at_after, later-left}
use Rattle.matching_search.proofs.Flags.{never as never'}
use Rattle.matching_forced.proofs.Tables.{bonds_long}
use Rattle.matching_forced.proofs.Listed.{Below, take-zeros, drop-zeros}
use Rattle.matching_forced.proofs.Searching.{tables-of, searched-step, chosen-in, chosen-free, mid-is, taken_back, set-behind, off-is, in-bonds, list_of, listed_below, ones-behind}
use Rattle.matching_forced.proofs.Choosing.{split_at, off-long, off-same, zero-before, with-one}

-- rows that are 0 before b: the first difference is at b
before-one : (r s : Row) (b : ℕ) → b < length r → b < length s → ((j : ℕ) → j < b → get_or r j 0 ≡ 0) → ((j : ℕ) → j < b → get_or s j 0 ≡ 0) → get_or r b 0 ≡ 1 → get_or s b 0 ≡ 0 → before r s ≡ true
unfolding before
before-one [] s b lr ls zr zs o z = absurd (omega arith)
before-one (x ∷ r) [] b lr ls zr zs o z = absurd (omega arith)
before-one (x ∷ r) (y ∷ s) zero lr ls zr zs o z = rw (o, z)
before-one (x ∷ r) (y ∷ s) (suc b) lr ls zr zs o z = rw (zr 0 (omega arith), zs 0 (omega arith)) (before-one r s b (omega arith) (omega arith) (λ j l. zr (suc j) (omega arith)) (λ j l. zs (suc j) (omega arith)) o z)

after_one : (r s : Row) (b : ℕ) → b < length r → b < length s → ((j : ℕ) → j < b → get_or r j 0 ≡ 0) → ((j : ℕ) → j < b → get_or s j 0 ≡ 0) → get_or r b 0 ≡ 0 → get_or s b 0 ≡ 1 → before r s ≡ false
unfolding before
after_one [] s b lr ls zr zs o z = absurd (omega arith)
after_one (x ∷ r) [] b lr ls zr zs o z = absurd (omega arith)
after_one (x ∷ r) (y ∷ s) zero lr ls zr zs o z = rw (o, z)
after_one (x ∷ r) (y ∷ s) (suc b) lr ls zr zs o z = rw (zr 0 (omega arith), zs 0 (omega arith)) (after_one r s b (omega arith) (omega arith) (λ j l. zr (suc j) (omega arith)) (λ j l. zs (suc j) (omega arith)) o z)

-- THE CHOICE: what comes after a matching r, by the lowest free bond
module _ (bs : List Bond) (need : List ℕ) (lb : lowest_free bs need < length bs) (r : Row) (is : is_of bs need r ≡ true) where
  abbrev b : ℕ
  b = lowest_free bs need

  r-row : is_row (length bs) r ≡ true
  r-row = and_left (is_row (length bs) r) (is_matching need bs r) is

  r-is : is_matching need bs r ≡ true
  r-is = and_right (is_row (length bs) r) (is_matching need bs r) is

  long : (s : Row) → is_row (length bs) s ≡ true → b < length s
  long s i = omega (arith, row-length (length bs) s i)

  split : later_of bs need r ≡ matchings (λ s. (is_matching need bs s && before r s) && eqb (get_or s b 0) 1) (length bs) ++ matchings (λ s. (is_matching need bs s && before r s) && eqb (get_or s b 0) 0) (length bs)
  split = split_at (λ s. is_matching need bs s && before r s) (length bs) b lb (λ s i t. zero-before bs need lb s i (and_left (is_matching need bs s) (before r s) t))

  swap : (p q t : Bool) → ((p && q) && t) ≡ ((p && t) && q)
  swap true q true = and-true q
  swap true q false = and-false q ∙ refl
  swap false q t = refl

  pub later-taken : get_or r b 0 ≡ 1 → later_of bs need r ≡ later_with bs need r b ++ left_of bs need b
  later-taken o =
      let ones' : matchings (λ s. (is_matching need bs s && before r s) && eqb (get_or s b 0) 1) (length bs) ≡ later_with bs need r b =
      matchings-same (λ s. (is_matching need bs s && before r s) && eqb (get_or s b 0) 1) (λ s. (is_matching need bs s && eqb (get_or s b 0) 1) && before r s) (length bs) (λ s i. swap (is_matching need bs s) (before r s) (eqb (get_or s b 0) 1))
      ∙ matchings-at (λ s. (is_matching need bs s && eqb (get_or s b 0) 1) && before r s) (λ s. is_matching (pair_at bs need b) bs s && before (set r b 0) s) (length bs) b lb
      (at_after (λ s. is_matching need bs s && eqb (get_or s b 0) 1) (is_matching (pair_at bs need b) bs) (length bs) b lb (with-one bs need lb) r o) in
      let zeros' : matchings (λ s. (is_matching need bs s && before r s) && eqb (get_or s b 0) 0) (length bs) ≡ left_of bs need b =
      matchings-same (λ s. (is_matching need bs s && before r s) && eqb (get_or s b 0) 0) (is_matching need (off bs b)) (length bs) (λ s i. zero-side s i (is_matching need bs s) refl (eqb (get_or s b 0) 0) refl ∙ off-same bs b lb need s i)
      ∙ ap (matchings (is_matching need (off bs b))) (sym (off-long bs b lb)) in
      split ∙ rw (ones', zeros')
    where
      zero-side : (s : Row) → is_row (length bs) s ≡ true → (p : Bool) → is_matching need bs s ≡ p → (t : Bool) → eqb (get_or s b 0) 0 ≡ t → ((is_matching need bs s && before r s) && eqb (get_or s b 0) 0) ≡ (is_matching need bs s && eqb (get_or s b 0) 0)
      zero-side s i true h true e = rw (h, e) (and-true (before r s) ∙ before-one r s b (long r r-row) (long s i) (zero-before bs need lb r r-row r-is) (zero-before bs need lb s i h) o (eqb-true (get_or s b 0) 0 e))
      zero-side s i true h false e = rw (h, e) (and-false (before r s))
      zero-side s i false h t e = rw h

  pub later-skipped : get_or r b 0 ≡ 0 → later_of bs need r ≡ later_of (off bs b) need r
  later-skipped o =
      let none : matchings (λ s. (is_matching need bs s && before r s) && eqb (get_or s b 0) 1) (length bs) ≡ [] =
      matchings-never (λ s. (is_matching need bs s && before r s) && eqb (get_or s b 0) 1) (length bs) (λ s i. one_side s i (is_matching need bs s) refl (eqb (get_or s b 0) 1) refl) in
      let rest : matchings (λ s. (is_matching need bs s && before r s) && eqb (get_or s b 0) 0) (length bs) ≡ later_of (off bs b) need r =
      matchings-same (λ s. (is_matching need bs s && before r s) && eqb (get_or s b 0) 0) (λ s. is_matching need (off bs b) s && before r s) (length bs)
      (λ s i. swap (is_matching need bs s) (before r s) (eqb (get_or s b 0) 0) ∙ ap (λ (p : Bool). p && before r s) (off-same bs b lb need s i))
      ∙ ap (matchings (λ s. is_matching need (off bs b) s && before r s)) (sym (off-long bs b lb)) in
      split ∙ rw (none, rest)
    where
      one_side : (s : Row) → is_row (length bs) s ≡ true → (p : Bool) → is_matching need bs s ≡ p → (t : Bool) → eqb (get_or s b 0) 1 ≡ t → ((is_matching need bs s && before r s) && eqb (get_or s b 0) 1) ≡ false
      one_side s i true h true e = rw (h, e) (and-true (before r s) ∙ after_one r s b (long r r-row) (long s i) (zero-before bs need lb r r-row r-is) (zero-before bs need lb s i h) o (eqb-true (get_or s b 0) 1 e))
      one_side s i true h false e = rw (h, e) (and-false (before r s))
      one_side s i false h t e = rw h

-- a matching r without a bond that it has, or with one switched off that it has not, is a matching of what is left
module _ (bs : List Bond) (need : List ℕ) (b : ℕ) (lb : b < length bs) (r : Row) (is : is_of bs need r ≡ true) where
  row_of : is_row (length bs) r ≡ true
  row_of = and_left (is_row (length bs) r) (is_matching need bs r) is

  matching-of : is_matching need bs r ≡ true
  matching-of = and_right (is_row (length bs) r) (is_matching need bs r) is

  pub taken_is : free (nth_bond bs b) need ≡ true → get_or r b 0 ≡ 1 → is_of bs (pair_at bs need b) (set r b 0) ≡ true
  taken_is fr o =
      let i' : is_row (length bs) (set r b 0) ≡ true = set-row (length bs) r b 0 (omega arith) row_of in
      let z : get_or (set r b 0) b 0 ≡ 0 = get_or-set_same r b 0 0 (row-long bs need b lb fr r row_of) in
      let back : set (set r b 0) b 1 ≡ r = set-set r b 0 1 ∙ ap (set r b) (sym o) ∙ set-get_or r b 0 in
      and_intro (is_row (length bs) (set r b 0)) (is_matching (pair_at bs need b) bs (set r b 0)) i' (sym (paired_same bs need b lb fr (set r b 0) i' z) ∙ ap (is_matching need bs) back ∙ matching-of)

  pub skipped-is : get_or r b 0 ≡ 0 → is_of (off bs b) need r ≡ true
  skipped-is o =
      and_intro (is_row (length (off bs b)) r) (is_matching need (off bs b) r) (rw (off-long bs b lb) row_of)
      (sym (off-same bs b lb need r row_of) ∙ and_intro (is_matching need bs r) (eqb (get_or r b 0) 0) matching-of (eq-eqb (get_or r b 0) 0 o))

-- no bond is free: a matching is all 0, and nothing comes after it
module _ (bs : List Bond) (need : List ℕ) (h : length bs ≤ lowest_free bs need) where
  all-zero : (s : Row) → is_row (length bs) s ≡ true → is_matching need bs s ≡ true → s ≡ replicate (length bs) 0
  unfolding lowest_free
  all-zero s i t = ext_get_or 0 s (replicate (length bs) 0) (row-length (length bs) s i ∙ sym (length-replicate (length bs) 0)) (λ j l. cell j (omega (arith, row-length (length bs) s i)) ∙ sym (repeated-at (length bs) j 0))
    where
      cell : (j : ℕ) → j < length bs → get_or s j 0 ≡ 0
      cell j l = cell-zero (length bs) s j i
          (not-true (set_of s j) (λ e. never (free (nth_bond bs j) need) (((row-is-set need bs s i).0 t).all_induced j e) (lowest-least (λ k. free (nth_bond bs k) need) (length bs) j (omega arith))))

  module _ (r : Row) (is : is_of bs need r ≡ true) where
    pub row_zero : r ≡ replicate (length bs) 0
    row_zero = all-zero r (and_left (is_row (length bs) r) (is_matching need bs r) is) (and_right (is_row (length bs) r) (is_matching need bs r) is)

    pub later-none : later_of bs need r ≡ []
    later-none = matchings-never (λ s. is_matching need bs s && before r s) (length bs) (λ s i. go s i (is_matching need bs s) refl)
      where
        go : (s : Row) → is_row (length bs) s ≡ true → (p : Bool) → is_matching need bs s ≡ p → (is_matching need bs s && before r s) ≡ false
        go s i true e = rw e (ap (before r) (all-zero s i e ∙ sym row_zero) ∙ before_self r)
        go s i false e = rw e

-- THE CODE'S WAYS. r0 is the row up to the last bond.
module _ {ea eb el need row : List ℕ} (s : Shape ea eb el need row 0) (is : is_of (bonds_of ea eb el) need (take (length ea) row) ≡ true) where
  abbrev Bs : List Bond
  Bs = bonds_of ea eb el

  abbrev r0 : Row
  r0 = take (length ea) row

  module _ {b : ℕ} (w : Chosen ea eb el need b) where
    cell_in : get_or r0 b 0 ≡ get_or row b 0
    cell_in = get_or-take (length ea) row b 0 w.inside

    -- the bond is kept as the row has it: row1 is the row without it, mid the flags then
    module _ (one : get_or row b 0 ≡ 1) {row1 : List ℕ} (cut : row1 ≡ set row b 0) {mid : List ℕ} (marked : mid ≡ mark_at ea eb need b 0) where
      cut-is : take (length ea) row1 ≡ set r0 b 0
      cut-is = ap (take (length ea)) cut ∙ take-set-lt (length ea) row b 0 w.inside

      pub kept-is : is_of Bs mid (take (length ea) row1) ≡ true
      kept-is = rw (mid-is s w marked, cut-is) (taken_is Bs need b (chosen-in s w) r0 is (chosen-free s w) (cell_in ∙ one))

      pub kept-searched : {r : Bool} {need1 need2 row2 row3 : List ℕ} → Searched mid row1 0 (length ea) (later_of Bs mid (take (length ea) row1)) r need1 row2 → need2 ≡ mark_at ea eb need1 b 1
          → (r ≡ true → row3 ≡ set row2 b 1) → (r ≡ false → row3 ≡ row2) → Searched need row 0 (length ea) (later_with Bs need r0 b) r need2 row3
      kept-searched {r} {need1} {need2} {row2} {row3} u un y z =
          let u1 : Searched mid row1 0 (length ea) (later_of Bs (pair_at Bs need b) (take (length ea) row1)) r need1 row2 = subst (λ (l : List ℕ). Searched mid row1 0 (length ea) (later_of Bs l (take (length ea) row1)) r need1 row2) (mid-is s w marked) u in
          let u2 : Searched mid row1 0 (length ea) (later_of Bs (pair_at Bs need b) (set r0 b 0)) r need1 row2 = subst (λ (x : Row). Searched mid row1 0 (length ea) (later_of Bs (pair_at Bs need b) x) r need1 row2) cut-is u1 in
          searched-step (λ x. set x b 1) (λ x. is_matching (pair_at Bs need b) Bs x && before (set r0 b 0) x) (length Bs) (bonds_long (tables-of s)) (set-behind s w marked) u2 (taken_back s w marked u.same un)
          (ap (drop (length ea)) cut ∙ drop-set-lt (length ea) row b 0 w.inside) y z

    -- the bond is switched off, as the row is without it
    module _ (none : get_or row b 0 ≡ 0) {el1 : List ℕ} (switched : el1 ≡ set el b 0) where
      pub off-kept : is_of (bonds_of ea eb el1) need r0 ≡ true
      off-kept = rw (off-is s w switched) (skipped-is Bs need b (chosen-in s w) r0 is (cell_in ∙ none))

      pub off-searched : {r : Bool} {need1 row1 : List ℕ} → Searched need row 0 (length ea) (later_of (bonds_of ea eb el1) need r0) r need1 row1 → Searched need row 0 (length ea) (later_of (off Bs b) need r0) r need1 row1
      off-searched {r} {need1} {row1} u = subst (λ (bs : List Bond). Searched need row 0 (length ea) (later_of bs need r0) r need1 row1) (off-is s w switched) u

  -- the lowest free bond
  module _ {b : ℕ} (lowest-is : b ≡ lowest_free Bs need) where
    pub following-none : length ea ≤ b → Searched need row 0 (length ea) (later_of Bs need r0) false need row
    following-none h =
        let h' : length Bs ≤ lowest_free Bs need = omega (arith, bonds_long (tables-of s)) in
        let z : length ea - 0 ≡ length ea = omega arith in
        let e = later-none Bs need h' r0 is in
        let q : r0 ≡ replicate (length ea) 0 = row_zero Bs need h' r0 is ∙ rw (bonds_long (tables-of s)) in
        record { same = refl; told = rw e; wrote = rw (e, z, ← q) (sym (take-append-drop (length ea) row)) }

    module _ (h : b < length ea) where
      lowest-cell : get_or r0 (lowest_free Bs need) 0 ≡ get_or row b 0
      lowest-cell = ap (λ (k : ℕ). get_or r0 k 0) (sym lowest-is) ∙ get_or-take (length ea) row b 0 h

      pub bit-zero : (get_or row b 0 ≡ 1 → ⊥) → get_or row b 0 ≡ 0
      bit-zero n =
          let e : get_or r0 b 0 ≡ get_or row b 0 = get_or-take (length ea) row b 0 h in
          sym e ∙ cell-zero (length Bs) r0 b (and_left (is_row (length Bs) r0) (is_matching need Bs r0) is) (ne_eqb (get_or r0 b 0) 1 (λ (q : get_or r0 b 0 ≡ 1). n (sym e ∙ q)))

      pub following-skipped : get_or row b 0 ≡ 0 → {r : Bool} {need1 row1 : List ℕ} → Searched need row 0 (length ea) (later_of (off Bs b) need r0) r need1 row1 → Searched need row 0 (length ea) (later_of Bs need r0) r need1 row1
      following-skipped o {r} {need1} {row1} u = subst (λ (fs : List Row). Searched need row 0 (length ea) fs r need1 row1)
          (ap (λ (k : ℕ). later_of (off Bs k) need r0) lowest-is ∙ sym (later-skipped Bs need (in-bonds s lowest-is h) r0 is (lowest-cell ∙ o))) u

      module _ (one : get_or row b 0 ≡ 1) {r : Bool} {need1 row1 : List ℕ} (u : Searched need row 0 (length ea) (later_with Bs need r0 b) r need1 row1) where
        both-parts : later_of Bs need r0 ≡ later_with Bs need r0 b ++ left_of Bs need b
        both-parts = later-taken Bs need (in-bonds s lowest-is h) r0 is (lowest-cell ∙ one) ∙ ap (λ (k : ℕ). later_with Bs need r0 k ++ left_of Bs need k) (sym lowest-is)

        pub following-found : r ≡ true → Searched need row 0 (length ea) (later_of Bs need r0) true need1 row1
        following-found y = go (later_with Bs need r0 b) refl (sym y ∙ u.told) u.wrote
          where
            go : (fs : List Row) → later_with Bs need r0 b ≡ fs → true ≡ some? fs → row1 ≡ written 0 row (length ea) fs → Searched need row 0 (length ea) (later_of Bs need r0) true need1 row1
            go [] q t v = absurd (never' (sym t))
            go (x ∷ fs) q t v =
                let e : later_of Bs need r0 ≡ x ∷ (fs ++ left_of Bs need b) = both-parts ∙ ap (λ (l : List Row). l ++ left_of Bs need b) q in
                record { same = u.same; told = rw e; wrote = v ∙ rw e }

        pub following-then : r ≡ false → {el1 : List ℕ} → el1 ≡ el → {x : Bool} {need2 row2 : List ℕ} → Searched need1 row1 0 (length ea) (left_of (bonds_of ea eb el1) need1 b) x need2 row2 → Searched need row 0 (length ea) (later_of Bs need r0) x need2 row2
        following-then n {el1} e {x} {need2} {row2} v = go (later_with Bs need r0 b) refl (sym n ∙ u.told) u.wrote
          where
            here : Searched need row1 0 (length ea) (left_of Bs need b) x need2 row2
            here = subst (λ (l : List ℕ). Searched need row1 0 (length ea) (left_of (bonds_of ea eb l) need b) x need2 row2) e (subst (λ (l : List ℕ). Searched l row1 0 (length ea) (left_of (bonds_of ea eb el1) l b) x need2 row2) u.same v)

            go : (fs : List Row) → later_with Bs need r0 b ≡ fs → false ≡ some? fs → row1 ≡ written 0 row (length ea) fs → Searched need row 0 (length ea) (later_of Bs need r0) x need2 row2
            go (y ∷ fs) q t w = absurd (never' t)
            go [] q t w =
                let all : later_of Bs need r0 ≡ left_of Bs need b = both-parts ∙ ap (λ (l : List Row). l ++ left_of Bs need b) q in
                let z : length ea - 0 ≡ length ea = omega arith in
                let d : drop (length ea) row1 ≡ drop (length ea) row = ap (drop (length ea)) w ∙ drop_at (replicate (length ea - 0) 0) (drop (length ea) row) (length ea) (length-replicate (length ea - 0) 0 ∙ z) in
                record { same = here.same; told = here.told ∙ ap some? (sym all); wrote = here.wrote ∙ rw (d, ← all) }

-- THE FORCED PAIRS, out of the row and back
pub zeros-matching : (bs : List Bond) (need : List ℕ) (r : Row) → is_of bs need r ≡ true → is_of bs (left bs need) (zeros (forced_from bs need) r) ≡ true
unfolding zeros pair_all
zeros-matching bs = by-turns bs (λ need. (r : Row) → is_of bs need r ≡ true → is_of bs (left bs need) (zeros (forced_from bs need) r) ≡ true) none some
  where
    none : (need : List ℕ) → forces bs need ≡ false → (r : Row) → is_of bs need r ≡ true → is_of bs (left bs need) (zeros (forced_from bs need) r) ≡ true
    none need h r is = rw (forced-none bs need h) is

    some : (need : List ℕ) → forces bs need ≡ true → ((r : Row) → is_of bs (turn bs need) r ≡ true → is_of bs (left bs (turn bs need)) (zeros (forced_from bs (turn bs need)) r) ≡ true)
        → (r : Row) → is_of bs need r ≡ true → is_of bs (left bs need) (zeros (forced_from bs need) r) ≡ true
    some need h ih r is =
        let b = forced_bond bs need in
        let one : get_or r b 0 ≡ 1 = eqb-true (get_or r b 0) 1 (forced-in bs need h (set_of r) ((row-is-set need bs r (and_left (is_row (length bs) r) (is_matching need bs r) is)).0 (and_right (is_row (length bs) r) (is_matching need bs r) is))) in
        rw (forced-pair bs need h) (ih (set r b 0) (taken_is bs need b (forced-below bs need h) r is (forced-free bs need h) one))

module _ {ea eb el need row pairs : List ℕ} (s : Shape ea eb el need row 0) (rm : Roomy ea eb el need pairs) {n : ℕ} {st : Bool} {need1 pairs1 : List ℕ}
    (f : Filled (bonds_of ea eb el) need pairs n st need1 pairs1) (wide : length pairs1 ≡ length pairs) (is : is_of (bonds_of ea eb el) need (take (length ea) row) ≡ true)
    {rowz : List ℕ} (out : rowz ≡ zeros (take n pairs1) row) where
  abbrev Bs' : List Bond
  Bs' = bonds_of ea eb el

  abbrev r1 : Row
  r1 = take (length ea) row

  out-is : rowz ≡ zeros (forced_from Bs' need) row
  out-is = out ∙ ap (λ (l : List ℕ). zeros l row) (list_of s rm f wide)

  z-is : take (length ea) rowz ≡ zeros (forced_from Bs' need) r1
  z-is = ap (take (length ea)) out-is ∙ take-zeros (length ea) (forced_from Bs' need) row

  pub without_is : is_of Bs' need1 (take (length ea) rowz) ≡ true
  without_is = rw (f.left, z-is) (zeros-matching Bs' need r1 is)

  pub without-searched : {r : Bool} {need2 need3 row2 row3 ks : List ℕ} → Searched need1 rowz 0 (length ea) (later_of Bs' need1 (take (length ea) rowz)) r need2 row2 → need3 ≡ need → ks ≡ take n pairs1
      → (r ≡ true → row3 ≡ ones ks row2) → (r ≡ false → row3 ≡ row2) → Searched need row 0 (length ea) (later_of Bs' need r1) r need3 row3
  without-searched {r} {need2} {need3} {row2} {row3} {ks} u again k y z =
      let F = forced_from Bs' need in
      let u1 : Searched need1 rowz 0 (length ea) (later_of Bs' (left Bs' need) (take (length ea) rowz)) r need2 row2 = subst (λ (l : List ℕ). Searched need1 rowz 0 (length ea) (later_of Bs' l (take (length ea) rowz)) r need2 row2) f.left u in
      let u2 : Searched need1 rowz 0 (length ea) (later_of Bs' (left Bs' need) (zeros F r1)) r need2 row2 = subst (λ (x : Row). Searched need1 rowz 0 (length ea) (later_of Bs' (left Bs' need) x) r need2 row2) z-is u1 in
      let below : Below F (length ea) = λ i l. omega (arith, listed_below Bs' need i l, bonds_long (tables-of s)) in
      subst (λ (fs : List Row). Searched need row 0 (length ea) fs r need3 row3)
      (sym (later-left Bs' need r1 (and_left (is_row (length Bs') r1) (is_matching need Bs' r1) is) (and_right (is_row (length Bs') r1) (is_matching need Bs' r1) is)))
      (searched-step (ones F) (λ x. is_matching (left Bs' need) Bs' x && before (zeros F r1) x) (length Bs') (bonds_long (tables-of s)) (ones-behind s rm f wide) u2 again
      (ap (drop (length ea)) out-is ∙ drop-zeros F (length ea) row below) (λ t. y t ∙ ap (λ (l : List ℕ). ones l row2) (k ∙ list_of s rm f wide)) z)
