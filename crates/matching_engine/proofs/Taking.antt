-- Laws of taking each bond in order, and of copying the flags for it. Assumes nothing.
use mathlib.Core.Path.{◌≡◌, refl, sym, ap, subst, ◌∙◌}
use mathlib.Core.Bool.{Bool, true, false}
use mathlib.Core.List.{List, ◌++◌}
use Prim.Native.Nat.{ℕ, ◌+◌, ◌-◌, ◌≤◌, ◌<◌}
use native.Mathlib.Omega.{arith}
use lib.ListN.{length, take, set, replicate, length-set}
use Rattle.loops.specs.Loop.{pick}
use Rattle.matching.specs.Enumeration.{row_first}
use Rattle.matching.specs.Graph.{none_flagged, is_matching}
use Rattle.matching.specs.Model.{Shape, Ends, Searched, all_from, free_at, mark_at, bonds_of, reply}
use Rattle.matching.specs.declared.MatchingAnswer.TheVariants.{Absent}
use Rattle.matching_search.proofs.Choice.{at-end, here3, ends-here, shape-next, found-one, not_free}
use Rattle.matching_search.proofs.Reply.{told-as, first-reply}
use Rattle.matching_engine.specs.Tried.{Taken}

-- the ways of `take_bond`
pub left_out : {ea eb el need : List ℕ} {k : ℕ} {f : Bool} → f ≡ free_at ea eb el need k → f ≡ false → Taken ea eb el need k 0 need
left_out e n = record { digit = rw (sym e ∙ n); flags = rw (sym e ∙ n) }

pub taken : {ea eb el need need' : List ℕ} {k : ℕ} {f : Bool} → f ≡ free_at ea eb el need k → f ≡ true → need' ≡ mark_at ea eb need k 0 → Taken ea eb el need k 1 need'
taken e y m = record { digit = rw (sym e ∙ y); flags = rw (sym e ∙ y) m }

-- the loop stands at the bond i: the first row from there on, behind what was written, is the first of all
pub record Taking (ea eb el need₀ row₀ : List ℕ) (i : ℕ) (need row : List ℕ) : Type 0 where
  pub shape : Shape ea eb el need row i
  pub flags : length need ≡ length need₀
  pub long : length row ≡ length row₀
  pub rest : (row1 : List ℕ) → Searched need row i (length ea) (all_from ea eb el need i) true need row1 → Searched need₀ row₀ 0 (length ea) (all_from ea eb el need₀ 0) true need₀ row1

pub taking-start : {ea eb el need row : List ℕ} → Shape ea eb el need row 0 → Taking ea eb el need row 0 need row
taking-start s = record { shape = s; flags = refl; long = refl; rest = λ r h. h }

module _ {ea eb el need₀ row₀ : List ℕ} {i : ℕ} {need row : List ℕ} (t : Taking ea eb el need₀ row₀ i need row) where
  pub taking-end : length ea ≤ i → {r : Bool} → r ≡ none_flagged need → r ≡ true → Searched need₀ row₀ 0 (length ea) (all_from ea eb el need₀ 0) true need₀ row
  taking-end h {r} e y = t.rest row
      (subst (λ (b : Bool). Searched need row i (length ea) (all_from ea eb el need i) b need row) y (at-end t.shape (omega (arith, t.shape.upto)) e))

  module _ (h : i < length ea) where
    before-end : i ≡ length ea → ⊥
    before-end e = omega arith

    -- what the calls ask
    pub taking-ends : Ends ea eb need i
    taking-ends = ends-here t.shape before-end refl

    pub taking-elided : i < length el
    taking-elided = here3 t.shape before-end

    -- the bond is free: the first row that has it is the first of all from i on
    one : free_at ea eb el need i ≡ true → {mid : List ℕ} → mid ≡ mark_at ea eb need i 0 → (row1 : List ℕ)
        → Searched mid (set row i 1) (i + 1) (length ea) (all_from ea eb el mid (i + 1)) true mid row1 → Searched need row i (length ea) (all_from ea eb el need i) true need row1
    one f {mid} m row1 s =
        let u : Searched need row i (length ea) (all_from ea eb el need i) true (mark_at ea eb mid i 1) row1 = found-one t.shape before-end refl f m s refl refl in
        subst (λ (n : List ℕ). Searched need row i (length ea) (all_from ea eb el need i) true n row1) u.same u

    -- the digit x is written, and the flags are need': the first row behind them is the first from i on
    go_on : (x : ℕ) {need' : List ℕ} → length need' ≡ length need
        → ((row1 : List ℕ) → Searched need' (set row i x) (i + 1) (length ea) (all_from ea eb el need' (i + 1)) true need' row1 → Searched need row i (length ea) (all_from ea eb el need i) true need row1)
        → Taking ea eb el need₀ row₀ (i + 1) need' (set row i x)
    go_on x l f = record {
      shape = shape-next t.shape before-end l (length-set row i x);
      flags = l ∙ t.flags;
      long = length-set row i x ∙ t.long;
      rest = λ r s. t.rest r (f r s);
    }

    step : (f : Bool) → f ≡ free_at ea eb el need i → {x : ℕ} {need' : List ℕ} → x ≡ pick f 1 0 → need' ≡ pick f (mark_at ea eb need i 0) need → length need' ≡ length need → Taking ea eb el need₀ row₀ (i + 1) need' (set row i x)
    step true e {x} d m l = go_on x l (λ r s. one (sym e) m r (rw d at s))
    step false e {x} d m l = go_on x l (λ r s. not_free t.shape before-end e refl (rw (d, m) at s))

    pub taking_step : {x : ℕ} {need' : List ℕ} → Taken ea eb el need i x need' → length need' ≡ length need → Taking ea eb el need₀ row₀ (i + 1) need' (set row i x)
    taking_step w l = step (free_at ea eb el need i) refl w.digit w.flags l

-- what was found with a copy of the flags
pub found-by-copy : {ea eb el need used row row1 : List ℕ} → Shape ea eb el need row 0 → used ≡ need → {r : Bool}
    → (r ≡ true → Searched used row 0 (length ea) (all_from ea eb el used 0) true used row1) → r ≡ true → Searched need row 0 (length ea) (all_from ea eb el need 0) true need row1
found-by-copy {ea} {eb} {el} {row = row} {row1 = row1} s e f y = subst (λ (n : List ℕ). Searched n row 0 (length ea) (all_from ea eb el n 0) true n row1) e (f y)

-- a search after it: row1 is the row that it left
module _ {ea eb el need row row1 : List ℕ} (s : Shape ea eb el need row 0) (long : length row1 ≡ length row) where
  pub shape-long : Shape ea eb el need row1 0
  shape-long = record { second = s.second; third = s.third; room = omega (arith, s.room); upto = s.upto; ends1 = s.ends1; ends2 = s.ends2 }

  pub reply-after : {need2 row2 row3 : List ℕ} → length row2 ≡ length row1 → row3 ≡ take (length ea) row2 ++ replicate (length row2 - length ea) 0 → {r b : Bool}
      → Searched need row1 0 (length ea) (all_from ea eb el need 0) r need2 row2 → r ≡ b → reply (told-as b Absent) row3 ≡ row_first (is_matching need (bonds_of ea eb el)) (length ea) (length row)
  reply-after l c h t = first-reply shape-long l c h t ∙ ap (row_first (is_matching need (bonds_of ea eb el)) (length ea)) long
