-- The whole reply of the two calls: the row, and the forced list with its number. Assumes nothing.
use mathlib.Core.Path.{◌≡◌, refl, sym, ap, subst, ◌∙◌}
use mathlib.Core.Bool.{Bool, true, false}
use mathlib.Core.List.{List, [], ◌∷◌, ◌++◌, map}
use Prim.Native.Nat.{ℕ, ◌-◌}
use native.Mathlib.Omega.{arith}
use lib.ListN.{length, take, replicate}
use Rattle.loops.proofs.Loops.{and_left}
use Rattle.matching.specs.Enumeration.{Row, Reply, is_row, or_zeroed, given, zeroed, fill, row_first, row_next}
use Rattle.matching.specs.declared.MatchingAnswer.TheVariants.{Given, Absent, Ended}
use Rattle.matching.specs.Graph.{Bond, is_matching}
use Rattle.matching.specs.Model.{reply, Shape, Searched, later_from, matching_from, part, bonds_of}
use Rattle.matching.proofs.Enumeration.{first-matching, row-length}
use Rattle.matching.proofs.Graph.{matching-pairs}
use Rattle.matching_search.proofs.Reply.{told-as, first-reply, next-reply, matching-all}
use Rattle.matching_forced.specs.Forced.{forced_from}
use Rattle.matching_forced.specs.Steps.{ones, Filled, Roomy, FirstReply, all_of, later_of, is_of}
use Rattle.matching_forced.proofs.Turns.{left, list-absent, list-given}
use Rattle.matching_forced.proofs.Rows.{matchings-left}
use Rattle.matching_forced.proofs.Tables.{bonds_long}
use Rattle.matching_forced.proofs.Listed.{ones-left, length-ones}
use Rattle.matching_forced.proofs.Searching.{tables-of, shape-both, all-is, list_of, listed_below}

apart : Given ≡ Absent → ⊥
apart e = let z : ◌≡◌ {A = ℕ} 0 1 = cc in omega arith

-- ASKED FOR THE FIRST: n pairs were forced, ks is their list, need1 are the flags then, and row1 is what the search left, cleared to row2
module _ {ea eb el need row pairs : List ℕ} (s : Shape ea eb el need row 0) (r : Roomy ea eb el need pairs) {n : ℕ} {st : Bool} {need1 pairs1 : List ℕ}
    (f : Filled (bonds_of ea eb el) need pairs n st need1 pairs1) (wide : length pairs1 ≡ length pairs) {b : Bool} {need2 row1 row2 : List ℕ}
    (u : Searched need1 row 0 (length ea) (all_of (bonds_of ea eb el) need1) b need2 row1) (same : length need1 ≡ length need) (long : length row1 ≡ length row)
    (cleared : row2 ≡ take (length ea) row1 ++ replicate (length row1 - length ea) 0) where
  abbrev Bs : List Bond
  Bs = bonds_of ea eb el

  abbrev F : List ℕ
  F = forced_from Bs need

  M : List Row
  M = all_of Bs (left Bs need)

  -- the reply on what is left
  left-reply : {x : Bool} → b ≡ x → reply (told-as x Absent) row2 ≡ or_zeroed (length row) Absent M
  unfolding M
  left-reply e =
      let s1 = shape-both s same refl in
      first-reply s1 long cleared (subst (λ (fs : List Row). Searched need1 row 0 (length ea) fs b need2 row1) (sym (all-is (tables-of s1))) u) e
      ∙ ap (λ (l : List ℕ). row_first (is_matching l Bs) (length ea) (length row)) f.left ∙ ap (λ (k : ℕ). row_first (is_matching (left Bs need) Bs) k (length row)) (sym (bonds_long (tables-of s)))

  all-of : all_of Bs need ≡ map (ones F) M
  unfolding M
  all-of = matchings-left Bs need

  long_of : (e : Row) (es : List Row) → M ≡ e ∷ es → length e ≡ length Bs
  unfolding M
  long_of e es h = row-length (length Bs) e (and_left (is_row (length Bs) e) (is_matching (left Bs need) Bs e) (first-matching (is_matching (left Bs need) Bs) (length Bs) e es h).0)

  pub first-given : b ≡ true → {row3 pairs3 ks : List ℕ} {l : ℕ} → ks ≡ take n pairs1 → row3 ≡ ones ks row2 → l ≡ length pairs → pairs3 ≡ ks ++ replicate (l - n) 0 → FirstReply Bs need row pairs Given n row3 pairs3
  first-given y {row3} {pairs3} {ks} {l} k o e c = go M refl
    where
      ks-is : ks ≡ F
      ks-is = k ∙ list_of s r f wide

      go : (fs : List Row) → M ≡ fs → FirstReply Bs need row pairs Given n row3 pairs3
      go [] h =
          let q : reply Given row2 ≡ zeroed (length row) Absent = left-reply y ∙ ap (or_zeroed (length row) Absent) h in
          absurd (apart (ap (λ (t : Reply). t.answer) q))
      go (x ∷ es) h =
          let q : reply Given row2 ≡ given (length row) x = left-reply y ∙ ap (or_zeroed (length row) Absent) h in
          let q2 : row2 ≡ fill (length row) x = ap (λ (t : Reply). t.row) q in
          let a : all_of Bs need ≡ ones F x ∷ map (ones F) es = all-of ∙ ap (map (ones F)) h in
          let lx = long_of x es h in
          let r3 : row3 ≡ fill (length row) (ones F x) =
          o ∙ ap (λ (t : List ℕ). ones t row2) ks-is ∙ ap (ones F) q2
          ∙ ones-left F x (replicate (length row - length x) 0) (λ i t. omega (arith, listed_below Bs need i t))
          ∙ ap (λ (t : ℕ). ones F x ++ replicate (length row - t) 0) (sym (length-ones F x)) in
          let fl = list-given Bs need (ones F x) (map (ones F) es) a in
          record {
            replied = ap (reply Given) r3 ∙ sym (ap (or_zeroed (length row) Absent) a);
            counted = f.told ∙ sym (ap length fl);
            listed = c ∙ rw (ks-is, e, fl);
          }

  pub first_absent : b ≡ false → {pairs3 : List ℕ} {l : ℕ} → l ≡ length pairs → pairs3 ≡ [] ++ replicate (l - 0) 0 → FirstReply Bs need row pairs Absent 0 row2 pairs3
  first_absent z {pairs3} e c = go M refl
    where
      go : (fs : List Row) → M ≡ fs → FirstReply Bs need row pairs Absent 0 row2 pairs3
      go (x ∷ es) h =
          let q : reply Absent row2 ≡ given (length row) x = left-reply z ∙ ap (or_zeroed (length row) Absent) h in
          absurd (apart (ap (λ (t : Reply). t.answer) (sym q)))
      go [] h =
          let a : all_of Bs need ≡ [] = all-of ∙ ap (map (ones F)) h in
          let fl = list-absent Bs need a in
          record {
            replied = left-reply z ∙ ap (or_zeroed (length row) Absent) h ∙ sym (ap (or_zeroed (length row) Absent) a);
            counted = sym (ap length fl);
            listed = c ∙ rw (e, fl);
          }

-- ASKED FOR THE NEXT: mid are the flags that the check of the row gave back
module _ {ea eb el need row : List ℕ} (s : Shape ea eb el need row 0) {mid : List ℕ} (same : mid ≡ need) (was : matching_from ea eb el need (part (length ea) row 0) 0 ≡ true) where
  pub row_is : is_of (bonds_of ea eb el) mid (take (length ea) row) ≡ true
  row_is = rw (same, bonds_long (tables-of s)) (sym (matching-all ea eb el need row) ∙ was)

  later-is : later_from ea eb el mid (part (length ea) row 0) 0 ≡ later_of (bonds_of ea eb el) mid (take (length ea) row)
  later-is =
      let z : length ea - 0 ≡ length ea = omega arith in
      rw (z, matching-pairs mid (bonds_of ea eb el)) (rw (bonds_long (tables-of s)))

  pub next-told : {r : Bool} {need1 row1 row2 : List ℕ} → length row1 ≡ length row → row2 ≡ take (length ea) row1 ++ replicate (length row1 - length ea) 0
      → Searched mid row 0 (length ea) (later_of (bonds_of ea eb el) mid (take (length ea) row)) r need1 row1 → {b : Bool} → r ≡ b
      → reply (told-as b Ended) row2 ≡ row_next (is_matching need (bonds_of ea eb el)) (length ea) (length row) (take (length ea) row)
  next-told {r} {need1} {row1} l c u t = next-reply s l c was same (subst (λ (fs : List Row). Searched mid row 0 (length ea) fs r need1 row1) (sym later-is) u) t
