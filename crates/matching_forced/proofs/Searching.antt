-- Laws of the search that forces at every turn: a bond chosen, a bond left, and the forced pairs around them. Assumes nothing.
use mathlib.Core.Path.{◌≡◌, refl, sym, ap, subst, ◌∙◌}
use mathlib.Core.Bool.{Bool, true, false, ◌&&◌}
use mathlib.Core.List.{List, [], ◌∷◌, ◌++◌, map}
use Prim.Native.Nat.{ℕ, zero, suc, ◌-◌, ◌<◌, ◌≤◌}
use native.Mathlib.Omega.{arith}
use lib.Dec.{eqb}
use lib.ListN.{length, take, drop, get_or, set, replicate, length-set, length-drop, length-replicate, length-append}
use lib.Seq.{set-append_left, drop-set-lt, set-set, set-get_or, take_at, drop_at, length-take-le, get_or-take}
use borrow.Author.Tests.{eqb-true}
use borrow.Rule.Slice.PartMut.{put_mid, take_put, same_len_mid}
use Rattle.loops.proofs.Loops.{and_left}
use Rattle.matching.specs.Enumeration.{Row, is_row, matchings, cons_if}
use Rattle.matching.specs.Graph.{Bond, is_matching, none_flagged, nth_bond, flagged}
use Rattle.matching.specs.Limits.{max_bonds}
use Rattle.matching.specs.Model.{Shape, BondTables, Ends, Searched, all_from, free, free_at, mark_at, bonds_of, some?, written}
use Rattle.matching.proofs.Enumeration.{first-matching, row-length}
use Rattle.matching.proofs.Claims.{empty-iff}
use Rattle.matching_search.proofs.Flags.{never, restore}
use Rattle.matching.proofs.Graph.{matching-pairs}
use Rattle.matching_engine.specs.Tried.{Tried}
use Rattle.std.specs.Prelude.{Ok}
use Rattle.matching_engine.specs.Tried.{Sought, Found, Absent}
use Rattle.matching_engine.proofs.Tried.{then-blank, then-certified}
use Rattle.matching_forced.specs.Forced.{forces, forced_bond, forced_from, pair_at}
use Rattle.matching_forced.specs.Steps.{backward, undone, ones, Ones, off, lowest_free, free_total, pair_all, all_of, taken_of, left_of, Chosen, Roomy, Filled}
use Rattle.matching_forced.proofs.Forced.{fewer-free, stuck-none, forced-below, forced-free}
use Rattle.matching_forced.proofs.Turns.{left, turn, room, at-most-bonds, by-turns, forced-pair, forced-none}
use Rattle.matching_forced.proofs.Rows.{matchings-left}
use Rattle.matching_forced.proofs.Choosing.{fewer-off, off-long, lowest-free, choice, no-choice}
use Rattle.matching_forced.proofs.Tables.{nth-bonds, bonds_long, marks_at, ends_at}
use Rattle.matching_forced.proofs.Listed.{Below, ones-left, drop-ones}

pub tables-of : {ea eb el need row : List ℕ} → Shape ea eb el need row 0 → BondTables ea eb el need 0
tables-of s = record { second = s.second; third = s.third; upto = s.upto; ends1 = s.ends1; ends2 = s.ends2 }

-- the flags or the row changed, with their lengths kept
pub shape-both : {ea eb el need row need' row' : List ℕ} → Shape ea eb el need row 0 → length need' ≡ length need → length row' ≡ length row → Shape ea eb el need' row' 0
shape-both s e l = record {
  second = s.second;
  third = s.third;
  room = omega (arith, s.room);
  upto = s.upto;
  ends1 = λ j h. rw e (s.ends1 j h);
  ends2 = λ j h. rw e (s.ends2 j h);
}

-- A BOND SWITCHED OFF, in the tables
pub bonds-off : (ea eb el : List ℕ) (k : ℕ) → length eb ≡ length ea → length el ≡ length ea → k < length ea → bonds_of ea eb (set el k 0) ≡ off (bonds_of ea eb el) k
unfolding bonds_of
bonds-off [] eb el k h i l = absurd (omega arith)
bonds-off (a ∷ ea) [] el k h i l = absurd (omega arith)
bonds-off (a ∷ ea) (b ∷ eb) [] k h i l = absurd (omega arith)
bonds-off (a ∷ ea) (b ∷ eb) (e ∷ el) zero h i l = refl
bonds-off (a ∷ ea) (b ∷ eb) (e ∷ el) (suc k) h i l = ap {B = List Bond} (λ x. record { end1 = a; end2 = b; elided = eqb e 1 } ∷ x) (bonds-off ea eb el k (omega arith) (omega arith) (omega arith))

-- an answer by another name
pub tried-as : {need row need' row' : List ℕ} {k m : ℕ} {fs : List Row} {o o' : Sought} → o ≡ o' → Tried need row k m fs o need' row' → Tried need row k m fs o' need' row'
tried-as {need} {row} {need'} {row'} {k} {m} {fs} e t = subst (λ (x : Sought). Tried need row k m fs x need' row') e t

-- more rows behind those that were searched
widen : {need row : List ℕ} {m : ℕ} {A : List Row} {o : Sought} {need' row' : List ℕ} (B : List Row) → Tried need row 0 m A o need' row' → (o ≡ Absent → ⊥) → Tried need row 0 m (A ++ B) o need' row'
widen {need} {row} {m} {A} {o} {need'} {row'} B t n = record { same = t.same; front = t.front; back = t.back; found = λ q. more A (t.found q); absent = λ q. absurd (n q) }
  where
    more : (A : List Row) → Searched need row 0 m A true need' row' → Searched need row 0 m (A ++ B) true need' row'
    more [] u = absurd (never (sym u.told))
    more (a ∷ A) u = record { same = u.same; told = refl; wrote = u.wrote }

-- ROWS FOUND, each changed by a step that leaves what stands behind the last bond
differ : ◌≡◌ {A = ℕ} 0 1 → ⊥
differ e = omega arith

matching-long : (p : Row → Bool) (m : ℕ) (e : Row) (es : List Row) → matchings p m ≡ e ∷ es → length e ≡ m
matching-long p m e es h = row-length m e (and_left (is_row m e) (p e) (first-matching p m e es h).0)

module _ (step : Row → Row) (p : Row → Bool) (k : ℕ) {m : ℕ} (km : k ≡ m) (behind : (e z : Row) → length e ≡ m → step (e ++ z) ≡ step e ++ z) where
  pub searched-step : {n need need1 need2 row row' row1 row2 : List ℕ} {r : Bool} → Searched n row' 0 m (matchings p k) r need1 row1 → need2 ≡ need → drop m row' ≡ drop m row
      → (r ≡ true → row2 ≡ step row1) → (r ≡ false → row2 ≡ row1) → Searched need row 0 m (map step (matchings p k)) r need2 row2
  searched-step {n} {need} {need1} {need2} {row} {row'} {row1} {row2} {r} u same d y z = go (matchings p k) refl u.told u.wrote
    where
      go : (fs : List Row) → matchings p k ≡ fs → r ≡ some? fs → row1 ≡ written 0 row' m fs → Searched need row 0 m (map step fs) r need2 row2
      go [] h t w = record { same = same; told = t; wrote = z t ∙ w ∙ ap (λ (l : List ℕ). replicate (m - 0) 0 ++ l) d }
      go (x ∷ fs) h t w = record { same = same; told = t; wrote = y t ∙ ap step w ∙ behind x (drop m row') (matching-long p k x fs h ∙ km) ∙ ap (λ (l : List ℕ). step x ++ l) d }

  pub tried-step : {n need need1 need2 row row1 row2 : List ℕ} → Tried n row 0 m (matchings p k) Found need1 row1 → need2 ≡ need → row2 ≡ step row1 → drop m row2 ≡ drop m row1 → Tried need row 0 m (map step (matchings p k)) Found need2 row2
  tried-step t same e back = record { same = same; front = refl; back = back ∙ t.back; found = λ q. searched-step (t.found refl) same refl (λ y. e) (λ z. absurd (never (sym z))); absent = λ q. absurd (differ (cc)) }

  pub tried_other : {n need need1 need2 row row1 : List ℕ} {o : Sought} → Tried n row 0 m (matchings p k) o need1 row1 → need2 ≡ need → (o ≡ Found → ⊥) → Tried need row 0 m (map step (matchings p k)) o need2 row1
  tried_other t same n = record { same = same; front = refl; back = t.back; found = λ q. absurd (n q); absent = λ q. ap (map step) (t.absent q) }

-- A CHOSEN BOND
module _ {ea eb el need row : List ℕ} {b : ℕ} (s : Shape ea eb el need row 0) (w : Chosen ea eb el need b) where
  abbrev Bs : List Bond
  Bs = bonds_of ea eb el

  pub chosen-ends : Ends ea eb need b
  chosen-ends = ends_at (tables-of s) b w.inside

  pub chosen-in : b < length Bs
  chosen-in = omega (arith, bonds_long (tables-of s), w.inside)

  pub chosen-free : free (nth_bond Bs b) need ≡ true
  chosen-free = ap (λ (x : Bond). free x need) (nth-bonds ea eb el b s.second s.third w.inside) ∙ w.is_free

  -- it is taken: mid are the flags then
  module _ {mid : List ℕ} (marked : mid ≡ mark_at ea eb need b 0) where
    pub mid-is : mid ≡ pair_at Bs need b
    mid-is = marked ∙ marks_at (tables-of s) b w.inside

    pub taken-less : free_total Bs mid < free_total Bs need
    taken-less = rw mid-is (fewer-free Bs need b chosen-in chosen-free)

    pub taken-roomy : length mid ≡ length need → {pairs : List ℕ} → Roomy ea eb el need pairs → Roomy ea eb el mid pairs
    taken-roomy l r = record { atoms_few = omega (arith, r.atoms_few); bonds_few = r.bonds_few; room = omega (arith, r.room, taken-less) }

    pub taken_back : {need1 need2 : List ℕ} → need1 ≡ mid → need2 ≡ mark_at ea eb need1 b 1 → need2 ≡ need
    taken_back e f = f ∙ ap (λ (l : List ℕ). mark_at ea eb l b 1) (e ∙ marked) ∙ restore ea eb el need b w.is_free

    pub set-behind : (e z : Row) → length e ≡ length ea → set (e ++ z) b 1 ≡ set e b 1 ++ z
    set-behind e z l = set-append_left e z b 1 (omega (arith, w.inside))

    module _ {o : Sought} {need1 row1 : List ℕ} (t : Tried mid row 0 (length ea) (all_of Bs mid) o need1 row1) {need2 : List ℕ} (unmarked : need2 ≡ mark_at ea eb need1 b 1) where
      again : need2 ≡ need
      again = taken_back t.same unmarked

      here : Tried mid row 0 (length ea) (all_of Bs (pair_at Bs need b)) o need1 row1
      here = subst (λ (l : List ℕ). Tried mid row 0 (length ea) (all_of Bs l) o need1 row1) mid-is t

      pub taken-found : o ≡ Found → {row2 : List ℕ} → row2 ≡ set row1 b 1 → Tried need row 0 (length ea) (taken_of Bs need b) Found need2 row2
      taken-found q {row2} e = tried-step (λ r. set r b 1) (is_matching (pair_at Bs need b) Bs) (length Bs) (bonds_long (tables-of s)) set-behind
          (subst (λ (x : Sought). Tried mid row 0 (length ea) (all_of Bs (pair_at Bs need b)) x need1 row1) q here) again e (ap (drop (length ea)) e ∙ drop-set-lt (length ea) row1 b 1 w.inside)

      pub taken-other : (o ≡ Found → ⊥) → Tried need row 0 (length ea) (taken_of Bs need b) o need2 row1
      taken-other n = tried_other (λ r. set r b 1) (is_matching (pair_at Bs need b) Bs) (length Bs) (bonds_long (tables-of s)) set-behind here again n

  -- it is left: el1 has a 0 for it
  module _ {el1 : List ℕ} (switched : el1 ≡ set el b 0) where
    pub off-is : bonds_of ea eb el1 ≡ off Bs b
    off-is = ap (bonds_of ea eb) switched ∙ bonds-off ea eb el b s.second s.third w.inside

    pub left_less : free_total (bonds_of ea eb el1) need < free_total Bs need
    left_less = rw off-is (fewer-off Bs b chosen-in need chosen-free)

    pub left-roomy : {pairs : List ℕ} → Roomy ea eb el need pairs → Roomy ea eb el1 need pairs
    left-roomy r = record { atoms_few = r.atoms_few; bonds_few = r.bonds_few; room = omega (arith, r.room, left_less) }

    pub left-shape : Shape ea eb el1 need row 0
    left-shape = record { second = s.second; third = ap length switched ∙ length-set el b 0 ∙ s.third; room = s.room; upto = s.upto; ends1 = s.ends1; ends2 = s.ends2 }

    pub searched-left : {r : Bool} {need1 row1 : List ℕ} → Searched need row 0 (length ea) (all_of (bonds_of ea eb el1) need) r need1 row1 → Searched need row 0 (length ea) (left_of Bs need b) r need1 row1
    searched-left {r} {need1} {row1} t = subst (λ (bs : List Bond). Searched need row 0 (length ea) (all_of bs need) r need1 row1) off-is t

    pub left_back : {el2 el3 : List ℕ} → el2 ≡ el1 → el3 ≡ set el2 b 1 → el3 ≡ el
    left_back e f = f ∙ ap (λ (l : List ℕ). set l b 1) (e ∙ switched) ∙ set-set el b 0 1 ∙ ap (set el b) (sym one) ∙ set-get_or el b 0
      where
        one : get_or el b 0 ≡ 1
        one = eqb-true (get_or el b 0) 1 (and_left (eqb (get_or el b 0) 1) (flagged need (get_or ea b 0)) (and_left (eqb (get_or el b 0) 1 && flagged need (get_or ea b 0)) (flagged need (get_or eb b 0)) w.is_free))

    pub tried-left : {o : Sought} {need1 row1 : List ℕ} → Tried need row 0 (length ea) (all_of (bonds_of ea eb el1) need) o need1 row1 → Tried need row 0 (length ea) (left_of Bs need b) o need1 row1
    tried-left {o} {need1} {row1} t = subst (λ (bs : List Bond). Tried need row 0 (length ea) (all_of bs need) o need1 row1) off-is t

-- THE LOWEST FREE BOND: chosen, and then left
module _ {ea eb el need row : List ℕ} {b : ℕ} (s : Shape ea eb el need row 0) (is : b ≡ lowest_free (bonds_of ea eb el) need) where
  abbrev Bs' : List Bond
  Bs' = bonds_of ea eb el

  -- there is none
  module _ (h : length ea ≤ b) {row1 : List ℕ} (blanked : row1 ≡ take 0 row ++ (replicate (length ea - 0) 0 ++ drop (length ea) row)) {r : Bool} (told : r ≡ none_flagged need) where
    all_end : all_of Bs' need ≡ cons_if r (replicate (length ea) 0) []
    all_end = no-choice Bs' need (omega (arith, bonds_long (tables-of s))) ∙ rw (← told, bonds_long (tables-of s))

    zero_row : row1 ≡ replicate (length ea) 0 ++ drop (length ea) row
    zero_row = let z : length ea - 0 ≡ length ea = omega arith in blanked ∙ rw z

    back_end : drop (length ea) row1 ≡ drop (length ea) row
    back_end = ap (drop (length ea)) zero_row ∙ drop_at (replicate (length ea) 0) (drop (length ea) row) (length ea) (length-replicate (length ea) 0)

    pub end-found : r ≡ true → Tried need row 0 (length ea) (all_of Bs' need) Found need row1
    end-found y =
        let e : all_of Bs' need ≡ replicate (length ea) 0 ∷ [] = all_end ∙ rw y in
        record { same = refl; front = refl; back = back_end; found = λ q. record { same = refl; told = rw e; wrote = rw e zero_row }; absent = λ q. absurd (differ (cc)) }

    pub end-absent : r ≡ false → Tried need row 0 (length ea) (all_of Bs' need) Absent need row1
    end-absent n = record { same = refl; front = refl; back = back_end; found = λ q. absurd (differ (cc)); absent = λ q. all_end ∙ rw n }

    pub end-all : Tried need row 0 (length ea) (all_of Bs' need) (Ok r) need row1
    end-all = go r refl
      where
        go : (b : Bool) → r ≡ b → Tried need row 0 (length ea) (all_of Bs' need) (Ok r) need row1
        go true e = tried-as (ap Ok (sym e)) (end-found e)
        go false e = tried-as (ap Ok (sym e)) (end-absent e)

  module _ (h : b < length ea) where
    pub in-bonds : lowest_free Bs' need < length Bs'
    in-bonds = omega (arith, bonds_long (tables-of s))

    pub lowest-chosen : Chosen ea eb el need b
    lowest-chosen = record {
      inside = h;
      is_free = ap (λ (x : Bond). free x need) (sym (nth-bonds ea eb el b s.second s.third h)) ∙ ap (λ (k : ℕ). free (nth_bond Bs' k) need) is ∙ lowest-free Bs' need in-bonds;
    }

    pub both_ways : all_of Bs' need ≡ taken_of Bs' need b ++ left_of Bs' need b
    both_ways = rw is (choice Bs' need in-bonds ∙ rw (off-long Bs' (lowest_free Bs' need) in-bonds))

    module _ {o : Sought} {need1 row1 : List ℕ} (t : Tried need row 0 (length ea) (taken_of Bs' need b) o need1 row1) where
      -- it was found, or given up
      pub choice-told : (o ≡ Absent → ⊥) → Tried need row 0 (length ea) (all_of Bs' need) o need1 row1
      choice-told n = subst (λ (fs : List Row). Tried need row 0 (length ea) fs o need1 row1) (sym both_ways) (widen (left_of Bs' need b) t n)

      -- there is none with it
      pub choice-then : o ≡ Absent → {el1 : List ℕ} → el1 ≡ el → {x : Sought} {need2 row2 : List ℕ} → Tried need1 row1 0 (length ea) (left_of (bonds_of ea eb el1) need1 b) x need2 row2 → Tried need row 0 (length ea) (all_of Bs' need) x need2 row2
      choice-then q {el1} e {x} {need2} {row2} u =
          let v : Tried need row1 0 (length ea) (left_of Bs' need b) x need2 row2 =
          subst (λ (l : List ℕ). Tried need row1 0 (length ea) (left_of (bonds_of ea eb l) need b) x need2 row2) e (subst (λ (n : List ℕ). Tried n row1 0 (length ea) (left_of (bonds_of ea eb el1) n b) x need2 row2) t.same u) in
          let all : all_of Bs' need ≡ left_of Bs' need b = both_ways ∙ ap (λ (l : List Row). l ++ left_of Bs' need b) (t.absent q) in
          record {
            same = v.same;
            front = refl;
            back = v.back ∙ t.back;
            found = λ y. let f = v.found y in record { same = f.same; told = f.told ∙ ap some? (sym all); wrote = f.wrote ∙ rw (t.back, ← all) };
            absent = λ y. all ∙ v.absent y;
          }

-- an atom is stuck
pub none_stuck : {need row : List ℕ} {m : ℕ} {fs : List Row} {r : Bool} → (r ≡ true → fs ≡ []) → r ≡ true → Tried need row 0 m fs Absent need row
none_stuck f y = record { same = refl; front = refl; back = refl; found = λ q. absurd (differ (cc)); absent = λ q. f y }

-- THE FORCED PAIRS around the search: taken back in the end, and set in the row where a matching was found
nth-below : (m b : ℕ) (ks : List ℕ) → b < m → Below ks m → Below (b ∷ ks) m
nth-below m b ks h f zero l = h
nth-below m b ks h f (suc i) l = f i (omega arith)

pub listed_below : (bs : List Bond) (need : List ℕ) → Below (forced_from bs need) (length bs)
listed_below bs = by-turns bs (λ need. Below (forced_from bs need) (length bs))
    (λ need h i l. absurd (omega (arith, ap length (forced-none bs need h))))
    (λ need h ih. rw (forced-pair bs need h) (nth-below (length bs) (forced_bond bs need) (forced_from bs (turn bs need)) (forced-below bs need h) ih))

module _ (ea eb el : List ℕ) where
  abbrev bs : List Bond
  bs = bonds_of ea eb el

  pub undone-all : (need : List ℕ) → BondTables ea eb el need 0 → undone ea eb (forced_from bs need) (left bs need) ≡ need
  unfolding backward pair_all
  undone-all = by-turns bs (λ need. BondTables ea eb el need 0 → undone ea eb (forced_from bs need) (left bs need) ≡ need) none some
    where
      none : (need : List ℕ) → forces bs need ≡ false → BondTables ea eb el need 0 → undone ea eb (forced_from bs need) (left bs need) ≡ need
      none need h t = rw (forced-none bs need h)

      some : (need : List ℕ) → forces bs need ≡ true → (BondTables ea eb el (turn bs need) 0 → undone ea eb (forced_from bs (turn bs need)) (left bs (turn bs need)) ≡ turn bs need)
          → BondTables ea eb el need 0 → undone ea eb (forced_from bs need) (left bs need) ≡ need
      some need h ih t =
          let b = forced_bond bs need in
          let l : b < length ea = omega (arith, forced-below bs need h, bonds_long t) in
          let same : length (turn bs need) ≡ length need = simp length-set in
          let t' : BondTables ea eb el (turn bs need) 0 = record { second = t.second; third = t.third; upto = t.upto; ends1 = λ j q. rw same (t.ends1 j q); ends2 = λ j q. rw same (t.ends2 j q) } in
          let fr : free_at ea eb el need b ≡ true = ap (λ (x : Bond). free x need) (sym (nth-bonds ea eb el b t.second t.third l)) ∙ forced-free bs need h in
          rw (forced-pair bs need h) (ap (λ (x : List ℕ). mark_at ea eb x b 1) (ih t' ∙ sym (marks_at t b l)) ∙ restore ea eb el need b fr)

module _ {ea eb el need row pairs : List ℕ} (s : Shape ea eb el need row 0) (r : Roomy ea eb el need pairs) {n : ℕ} {st : Bool} {need1 pairs1 : List ℕ}
    (f : Filled (bonds_of ea eb el) need pairs n st need1 pairs1) (wide : length pairs1 ≡ length pairs) where
  abbrev Bs'' : List Bond
  Bs'' = bonds_of ea eb el

  abbrev F : List ℕ
  F = forced_from Bs'' need

  pub told-room : n ≤ length pairs1
  told-room = omega (arith, f.told, room Bs'' need, r.room)

  pub told-few : n ≤ max_bonds
  told-few = omega (arith, f.told, at-most-bonds Bs'' need, bonds_long (tables-of s), r.bonds_few)

  pub list_of : take n pairs1 ≡ F
  list_of = ap (take n) f.wrote ∙ take_at F (drop n pairs) n (sym f.told)

  pub ones-fit : {cells : List ℕ} → length ea ≤ length cells → Ones cells pairs1 n
  ones-fit {cells} l = record {
    upto = told-room;
    cells = λ i h.
        let g : get_or pairs1 i 0 ≡ get_or F i 0 = sym (get_or-take n pairs1 i 0 h) ∙ ap (λ (x : List ℕ). get_or x i 0) list_of in
        omega (arith, listed_below Bs'' need i (omega (arith, f.told)), bonds_long (tables-of s));
  }

  -- the list where the rest of it was lent and came back
  abbrev put : List ℕ → List ℕ
  put part = put_mid n (length pairs1 - n) pairs1 part

  pub put-long : (part : List ℕ) → length part ≡ length (take (length pairs1 - n) (drop n pairs1)) → length (put part) ≡ length pairs
  put-long part e = same_len_mid n (length pairs1 - n) pairs1 part e ∙ wide

  pub put_front : (part : List ℕ) → take n (put part) ≡ take n pairs1
  put_front part = take_put n (length pairs1 - n) pairs1 part told-room

  pub put-ones : (part : List ℕ) {cells : List ℕ} → length ea ≤ length cells → Ones cells (put part) n
  put-ones part {cells} l = record {
    upto = simp length-append (omega (arith, length-take-le n pairs1 told-room));
    cells = λ i h.
        let g : get_or (put part) i 0 ≡ get_or F i 0 = sym (get_or-take n (put part) i 0 h) ∙ ap (λ (x : List ℕ). get_or x i 0) (put_front part ∙ list_of) in
        omega (arith, listed_below Bs'' need i (omega (arith, f.told)), bonds_long (tables-of s));
  }

  pub forced-fewer : free_total Bs'' need1 ≤ free_total Bs'' need
  forced-fewer = rw f.left (omega (arith, room Bs'' need))

  pub forced-roomy : length need1 ≡ length need → Roomy ea eb el need1 (take (length pairs1 - n) (drop n pairs1))
  forced-roomy l = record {
    atoms_few = omega (arith, r.atoms_few);
    bonds_few = r.bonds_few;
    room =
        let a : free_total Bs'' need1 ≡ free_total Bs'' (left Bs'' need) = ap (free_total Bs'') f.left in
        let d : length pairs1 - n ≤ length (drop n pairs1) = simp length-drop (omega arith) in
        omega (arith, f.told, room Bs'' need, r.room, length-take-le (length pairs1 - n) (drop n pairs1) d);
  }

  pub forced-stuck : st ≡ true → all_of Bs'' need1 ≡ []
  forced-stuck y = (empty-iff need1 Bs'').1 (stuck-none Bs'' need1 (sym f.ends ∙ y))

  pub forced-back : {need2 need3 ks : List ℕ} → need2 ≡ need1 → ks ≡ take n pairs1 → need3 ≡ undone ea eb ks need2 → need3 ≡ need
  forced-back {need2} {need3} {ks} e p u = u ∙ ap (λ (x : List ℕ). undone ea eb x need2) (p ∙ list_of) ∙ ap (undone ea eb F) (e ∙ f.left) ∙ undone-all ea eb el need (tables-of s)

  pub ones-behind : (e z : Row) → length e ≡ length ea → ones F (e ++ z) ≡ ones F e ++ z
  ones-behind e z l = ones-left F e z (λ i h. omega (arith, listed_below Bs'' need i h, bonds_long (tables-of s)))

  module _ {o : Sought} {need2 row1 : List ℕ} (t : Tried need1 row 0 (length ea) (all_of Bs'' need1) o need2 row1) {need3 : List ℕ} (again : need3 ≡ need) where
    here' : Tried need1 row 0 (length ea) (all_of Bs'' (left Bs'' need)) o need2 row1
    here' = subst (λ (l : List ℕ). Tried need1 row 0 (length ea) (all_of Bs'' l) o need2 row1) f.left t

    pub forced-found : o ≡ Found → {row2 ks : List ℕ} → ks ≡ take n pairs1 → row2 ≡ ones ks row1 → Tried need row 0 (length ea) (all_of Bs'' need) Found need3 row2
    forced-found q {row2} {ks} p e =
        let e' : row2 ≡ ones F row1 = e ∙ ap (λ (x : List ℕ). ones x row1) (p ∙ list_of) in
        subst (λ (fs : List Row). Tried need row 0 (length ea) fs Found need3 row2) (sym (matchings-left Bs'' need))
        (tried-step (ones F) (is_matching (left Bs'' need) Bs'') (length Bs'') (bonds_long (tables-of s)) ones-behind
        (subst (λ (x : Sought). Tried need1 row 0 (length ea) (all_of Bs'' (left Bs'' need)) x need2 row1) q here') again e'
        (ap (drop (length ea)) e' ∙ drop-ones F (length ea) row1 (λ i h. omega (arith, listed_below Bs'' need i h, bonds_long (tables-of s)))))

    pub forced-other : (o ≡ Found → ⊥) → Tried need row 0 (length ea) (all_of Bs'' need) o need3 row1
    forced-other n = subst (λ (fs : List Row). Tried need row 0 (length ea) fs o need3 row1) (sym (matchings-left Bs'' need))
        (tried_other (ones F) (is_matching (left Bs'' need) Bs'') (length Bs'') (bonds_long (tables-of s)) ones-behind here' again n)

-- what was lent comes back as it was
module _ {ea eb el need row : List ℕ} (s : Shape ea eb el need row 0) {el1 need1 : List ℕ} (e : el1 ≡ el) (n : need1 ≡ need) where
  pub shape-again : {row1 : List ℕ} → length row1 ≡ length row → Shape ea eb el1 need1 row1 0
  shape-again l = rw (e, n) (shape-both s refl l)

  pub roomy-again : {pairs pairs1 : List ℕ} → length pairs1 ≡ length pairs → Roomy ea eb el need pairs → Roomy ea eb el1 need1 pairs1
  roomy-again l r = rw (e, n) (record { atoms_few = r.atoms_few; bonds_few = r.bonds_few; room = omega (arith, r.room) })

  pub chosen-again : {b : ℕ} → Chosen ea eb el need b → Chosen ea eb el1 need1 b
  chosen-again w = rw (e, n) w

  pub total-again : free_total (bonds_of ea eb el1) need1 ≡ free_total (bonds_of ea eb el) need
  total-again = rw (e, n)

-- ALL MATCHINGS, as the certified search names them, and what follows on the answer of the search under a budget
pub all-is : {ea eb el need : List ℕ} → BondTables ea eb el need 0 → all_from ea eb el need 0 ≡ all_of (bonds_of ea eb el) need
all-is {ea} {eb} {el} {need} t =
    let z : length ea - 0 ≡ length ea = omega arith in
    ap (λ (p : Row → Bool). matchings p (length ea - 0)) (sym (matching-pairs need (bonds_of ea eb el))) ∙ ap (matchings (is_matching need (bonds_of ea eb el))) z ∙ ap (matchings (is_matching need (bonds_of ea eb el))) (sym (bonds_long t))

module _ {ea eb el need row : List ℕ} (s : Shape ea eb el need row 0) {o : Sought} {need1 row1 : List ℕ} (t : Tried need row 0 (length ea) (all_of (bonds_of ea eb el) need) o need1 row1) where
  tried-from : Tried need row 0 (length ea) (all_from ea eb el need 0) o need1 row1
  tried-from = subst (λ (fs : List Row). Tried need row 0 (length ea) fs o need1 row1) (sym (all-is (tables-of s))) t

  pub any-absent : o ≡ Absent → {row2 : List ℕ} → row2 ≡ take 0 row1 ++ (replicate (length ea - 0) 0 ++ drop (length ea) row1) → Searched need row 0 (length ea) (all_of (bonds_of ea eb el) need) false need1 row2
  any-absent q {row2} e = subst (λ (fs : List Row). Searched need row 0 (length ea) fs false need1 row2) (all-is (tables-of s)) (then-blank s tried-from q e)

  pub any-certified : {el1 : List ℕ} → el1 ≡ el → {r : Bool} {need2 row2 : List ℕ} → Searched need1 row1 0 (length ea) (all_from ea eb el1 need1 0) r need2 row2 → Searched need row 0 (length ea) (all_of (bonds_of ea eb el) need) r need2 row2
  any-certified e {r} {need2} {row2} u = subst (λ (fs : List Row). Searched need row 0 (length ea) fs r need2 row2) (all-is (tables-of s))
      (then-certified s tried-from (subst (λ (l : List ℕ). Searched need1 row1 0 (length ea) (all_from ea eb l need1 0) r need2 row2) e u))
