-- What is claimed of matchings (01: placements), of their list (01: the entries of the book) and of the calls that hand them out. Assumes nothing.
use mathlib.Core.Path.{◌≡◌, refl, sym, ap, ◌∙◌}
use mathlib.Core.Bool.{Bool, true, false}
use mathlib.Core.List.{List, [], ◌∷◌, ◌++◌, map}
use mathlib.Core.Logic.{◌↔◌}
use Prim.Native.Nat.{ℕ, ◌≤◌, ◌<◌}
use native.Mathlib.Omega.{arith}
use lib.Dec.{ltb}
use lib.ListN.{length, take, get_or, replicate}
use borrow.Author.Tests.{ltb-true, ltb-false}
use Rattle.loops.proofs.Loops.{and_left, and_right}
use Rattle.matching.specs.Enumeration.{Row, matchings, Reply, zeroed, given, is_row, before, row_call, row_replies, cursor_at}
use Rattle.matching.specs.Graph.{Bond, is_matching, none_flagged, after_zero, enumeration, Pairs, set_of}
use Rattle.matching.specs.declared.MatchingAnswer.TheVariants.{Absent, Ended}
use Rattle.matching.specs.declared.Call.{Call}
use Rattle.matching.specs.declared.Call.TheVariants.{First, Next}
use Rattle.matching.proofs.Enumeration.{first-matching}
use Rattle.matching.proofs.Graph.{and_intro, matching-pairs, only-zeros, enumeration-agrees}
use Rattle.matching.proofs.Sets.{row-pairs, pairs-row, row_of, row-of-row, set-row}
use Rattle.matching.proofs.Listing.{row_at, passes_at, ordered_at, place_of, before-differs}
use Rattle.matching.proofs.Calls.{whole-list, reply-at, next-present, first-none, none_first}

-- THE LIST, for any test p of rows of m numbers.
module _ (p : Row → Bool) (m : ℕ) where
  -- each place of the list holds a row of m numbers 0 or 1 that passes the test
  pub listed-pass : (i : ℕ) → i < length (matchings p m) → (is_row m (row_at (matchings p m) i) ≡ true) × (p (row_at (matchings p m) i) ≡ true)
  listed-pass i l =
      let r = row_at (matchings p m) i in
      let k = passes_at m (matchings p m) p refl i l in
      (and_left (is_row m r) (p r) k, and_right (is_row m r) (p r) k)

  -- each such row stands in the list
  pub passing-listed : (r : Row) → is_row m r ≡ true → p r ≡ true → (i : ℕ) × (i < length (matchings p m)) × (row_at (matchings p m) i ≡ r)
  passing-listed r h k = place_of p m r (and_intro (is_row m r) (p r) h k)

  -- the list is in the order of 01: of two rows, the one with 1 where they first differ comes first
  pub in_order : (i j : ℕ) → i < j → j < length (matchings p m) → before (row_at (matchings p m) i) (row_at (matchings p m) j) ≡ true
  in_order i j = ordered_at m (matchings p m) p refl i j

  -- no row stands at two places
  pub once_each : (i j : ℕ) → i < length (matchings p m) → j < length (matchings p m) → row_at (matchings p m) i ≡ row_at (matchings p m) j → i ≡ j
  once_each i j a b e = go (ltb i j) refl (ltb j i) refl
    where
      go : (x : Bool) → ltb i j ≡ x → (y : Bool) → ltb j i ≡ y → i ≡ j
      go true q y k = absurd (before-differs (row_at (matchings p m) i) (row_at (matchings p m) j) (ordered_at m (matchings p m) p refl i j (ltb-true i j q) b) e)
      go false q true k = absurd (before-differs (row_at (matchings p m) j) (row_at (matchings p m) i) (ordered_at m (matchings p m) p refl j i (ltb-true j i k) a) (sym e))
      go false q false k = let u = ltb-false i j q in let w = ltb-false j i k in omega arith

-- THE SETS OF BONDS, for any flags of atoms and any bonds.
module _ (flags : List ℕ) (bonds : List Bond) where
  -- a row of 0 and 1 is a matching exactly if the bonds at which it has 1 are induced and pair each delocalized atom once
  pub row-is-set : (r : Row) → is_row (length bonds) r ≡ true → (is_matching flags bonds r ≡ true) ↔ Pairs flags bonds (set_of r)
  row-is-set r h = (row-pairs flags bonds r h, pairs-row flags bonds r h)

  -- the list of matchings is empty exactly if no set of bonds is a matching
  pub empty-iff : (matchings (is_matching flags bonds) (length bonds) ≡ []) ↔ ((S : ℕ → Bool) → Pairs flags bonds S → ⊥)
  empty-iff = (one, λ f. two f (matchings (is_matching flags bonds) (length bonds)) refl)
    where
      one : matchings (is_matching flags bonds) (length bonds) ≡ [] → (S : ℕ → Bool) → Pairs flags bonds S → ⊥
      one h S w =
          let k = place_of (is_matching flags bonds) (length bonds) (row_of S (length bonds)) (and_intro (is_row (length bonds) (row_of S (length bonds))) (is_matching flags bonds (row_of S (length bonds))) (row-of-row S (length bonds)) (set-row flags bonds S w)) in
          let l : length (matchings (is_matching flags bonds) (length bonds)) ≡ 0 = ap length h in
          omega (arith, k.1)

      two : ((S : ℕ → Bool) → Pairs flags bonds S → ⊥) → (es : List Row) → matchings (is_matching flags bonds) (length bonds) ≡ es → es ≡ []
      two f [] e = refl
      two f (r ∷ es) e =
          let k = (first-matching (is_matching flags bonds) (length bonds) r es e).0 in
          let i = and_left (is_row (length bonds) r) (is_matching flags bonds r) k in
          absurd (f (set_of r) (row-pairs flags bonds r i (and_right (is_row (length bonds) r) (is_matching flags bonds r) k)))

  -- with no delocalized atom there is one matching, all 0
  pub one-zero-row : none_flagged flags ≡ true → matchings (is_matching flags bonds) (length bonds) ≡ replicate (length bonds) 0 ∷ []
  one-zero-row h = rw (matching-pairs flags bonds) (only-zeros bonds flags h)

  -- THE CALLS: to every list of calls, calls that see nothing but their row reply as the enumeration does, whatever row they start from
  pub calls-enumerate : (cs : List Call) (row : Row) → length bonds ≤ length row → row_replies (is_matching flags bonds) (length bonds) cs row ≡ enumeration flags bonds cs row
  calls-enumerate = enumeration-agrees flags bonds

  -- first, and then next until the end, hands out all matchings, each once and in order, and then says so
  pub all-handed-out : (e : Row) (es : List Row) → matchings (is_matching flags bonds) (length bonds) ≡ e ∷ es → (row : Row) → length bonds ≤ length row
      → row_replies (is_matching flags bonds) (length bonds) (First ∷ replicate (length (e ∷ es)) Next) row ≡ map (given (length row)) (e ∷ es) ++ (zeroed (length row) Ended ∷ [])
  unfolding enumeration
  all-handed-out e es h row l =
      enumeration-agrees flags bonds (First ∷ replicate (length (e ∷ es)) Next) row l ∙ rw h (whole-list (length row) (after_zero flags (e ∷ es)) e es (cursor_at (take (length bonds) row) (e ∷ es)))

-- WHICH CALL CAN SAY THAT THERE IS NO MATCHING (01's 11): the i-th reply to a list of calls, for any test and any row at the start.
module _ (p : Row → Bool) (m : ℕ) (cs : List Call) (row : Row) (i : ℕ) (l : i < length cs) (g : Reply) where
  -- next never says it
  pub next-never-absent : get_or cs i First ≡ Next → (get_or (row_replies p m cs row) i g).answer ≡ Absent → ⊥
  next-never-absent = reply-at p m (λ c r. c ≡ Next → r.answer ≡ Absent → ⊥) each cs row i First g l
    where
      each : (c : Call) (row : Row) → c ≡ Next → (row_call p m c row).answer ≡ Absent → ⊥
      each First row e = absurd (let z : ◌≡◌ {A = ℕ} 0 1 = cc in omega arith)
      each Next row e = next-present p m row

  -- first says it exactly if there is none
  pub first-absent-iff : get_or cs i Next ≡ First → ((get_or (row_replies p m cs row) i g).answer ≡ Absent) ↔ (matchings p m ≡ [])
  first-absent-iff = reply-at p m (λ c r. c ≡ First → (r.answer ≡ Absent) ↔ (matchings p m ≡ [])) each cs row i Next g l
    where
      each : (c : Call) (row : Row) → c ≡ First → ((row_call p m c row).answer ≡ Absent) ↔ (matchings p m ≡ [])
      each First row e = (first-none p m row, none_first p m row)
      each Next row e = absurd (let z : ◌≡◌ {A = ℕ} 0 1 = cc in omega arith)
