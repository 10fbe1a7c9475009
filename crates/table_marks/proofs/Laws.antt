-- A law for each way through the code: a side from a mark and the ends, a stray mark, a bond with crowded ends. Assumes nothing.
use Prim.Native.Nat.{ℕ, ◌<◌}
use native.Mathlib.Omega.{arith}
use mathlib.Core.Path.{◌≡◌, refl, sym, ap, ◌∙◌}
use mathlib.Core.Bool.{Bool, true, false, ◌&&◌, ◌||◌, not}
use mathlib.Core.List.{List}
use lib.ListN.{get_or}
use lib.IntN.{ℤ}
use lib.Dec.{eqb}
use borrow.Author.Tests.{eq-eqb, ne_eqb, eqb-true}
use mir.Val.{bool_byte}
use Rattle.std.specs.Option.{option_eq}
use Rattle.loops.specs.Loop.{pick}
use Rattle.std.specs.Prelude.{Option, Some, None}
use Rattle.kinds.specs.Kind.{elided, double, is_mark, mark_of, given, turned}
use Rattle.kinds.proofs.Kind.{none-given, some-given, turned-elided}
use Rattle.table.specs.Cells.{end1, end2, kind, touches}
use Rattle.loops.proofs.Loops.{each_all}
use Rattle.table.proofs.Marks.{unmarked-uncrowded}
use Rattle.table_marks.specs.Chosen.{crowded_choice, none_crowded_by}
use Rattle.table.specs.Marks.{side, double_at, double_count, crowded, crowded_ends, crowded_bond, stray, unmarked}

module _ (bonds : List ℤ) (a b : ℕ) {e k : ℕ} {s : Option ℕ} (ek : k ≡ kind bonds b) (es : s ≡ given (mark_of k)) (e1 : e ≡ end1 bonds b) where
  pub side-first : e ≡ a → s ≡ given (side bonds a b)
  unfolding side
  side-first q = es ∙ rw (ek, eq-eqb (end1 bonds b) a (sym e1 ∙ q))

  module _ {f : ℕ} (n : e ≡ a → ⊥) (e2 : f ≡ end2 bonds b) where
    at-second : f ≡ a → side bonds a b ≡ turned (mark_of k)
    unfolding side
    at-second q = rw (ek, ne_eqb (end1 bonds b) a (λ z. n (e1 ∙ z)), eq-eqb (end2 bonds b) a (sym e2 ∙ q))

    pub side-second_unmarked : f ≡ a → s ≡ None → None ≡ given (side bonds a b)
    side-second_unmarked q z = rw (at-second q, turned-elided (mark_of k), eq-eqb (mark_of k) elided (none-given es z))

    pub side-second : {x t : ℕ} → f ≡ a → s ≡ Some x → t ≡ turned x → Some t ≡ given (side bonds a b)
    side-second q z et =
        let w = some-given es z in
        rw (at-second q, turned-elided (mark_of k), ne_eqb (mark_of k) elided w.1, ← w.0, et)

    pub side-neither : (f ≡ a → ⊥) → None ≡ given (side bonds a b)
    unfolding side
    side-neither q = rw (ne_eqb (end1 bonds b) a (λ z. n (e1 ∙ z)), ne_eqb (end2 bonds b) a (λ z. q (e2 ∙ z)))

-- 1 where a number that is there is the one that is asked for
pub one-there : (k : ℕ) {r : Option ℕ} {s : ℕ} {x : Bool} {y : ℕ} → 0 < s → r ≡ given k → x ≡ option_eq eqb r (Some s) → y ≡ bool_byte x → y ≡ pick (eqb k s) 1 0
one-there k {r} {s} {x} {y} p e f g = g ∙ ap bool_byte (f ∙ ap (λ (o : Option ℕ). option_eq eqb o (Some s)) e) ∙ go (eqb k 0) refl
  where
    byte : (b : Bool) → bool_byte b ≡ pick b 1 0
    byte true = refl
    byte false = refl

    go : (b : Bool) → eqb k 0 ≡ b → bool_byte (option_eq eqb (pick b None (Some k)) (Some s)) ≡ pick (eqb k s) 1 0
    go true h = sym (ap (λ (b : Bool). pick b 1 0) (ne_eqb k s (λ z. omega (arith, eqb-true k 0 h))))
    go false h = byte (eqb k s)

-- ---- a double bond at an atom
pub double-at : (bonds : List ℤ) (a b : ℕ) {e f k : ℕ} → e ≡ end1 bonds b → f ≡ end2 bonds b → k ≡ kind bonds b → ((eqb e a || eqb f a) && eqb k double) ≡ double_at bonds a b
unfolding touches
double-at bonds a b e1 e2 ek = λ i. (eqb (e1 i) a || eqb (e2 i) a) && eqb (ek i) double

-- ---- a stray mark
module _ (bonds : List ℤ) (m b : ℕ) {k : ℕ} {s : Bool} (ek : k ≡ kind bonds b) (es : s ≡ is_mark k) where
  pub stray-unmarked : s ≡ false → false ≡ stray bonds m b
  stray-unmarked z = sym (rw (sym (ap is_mark ek) ∙ sym es ∙ z))

  pub stray-marked : {e f : ℕ} {x y : Bool} → s ≡ true → e ≡ end1 bonds b → f ≡ end2 bonds b → x ≡ not (eqb (double_count bonds m e) 0) → y ≡ not (eqb (double_count bonds m f) 0) → (not x && not y) ≡ stray bonds m b
  stray-marked n e1 e2 ex ey =
      (λ i. not (ex i) && not (ey i))
      ∙ (λ i. not (not (eqb (double_count bonds m (e1 i)) 0)) && not (not (eqb (double_count bonds m (e2 i)) 0)))
      ∙ rw (sym (ap is_mark ek) ∙ sym es ∙ n) (twice (eqb (double_count bonds m (end1 bonds b)) 0) (eqb (double_count bonds m (end2 bonds b)) 0))
    where
      twice : (x y : Bool) → (not (not x) && not (not y)) ≡ (x && y)
      twice true true = refl
      twice true false = refl
      twice false y = refl

-- ---- crowded ends
module _ (bonds : List ℤ) (m b : ℕ) where
  pub first-crowded : {e : ℕ} {x : Bool} → e ≡ end1 bonds b → x ≡ crowded bonds m e → x ≡ true → true ≡ crowded_ends bonds m b
  first-crowded e1 ex t = sym (rw (sym (ap (crowded bonds m) e1) ∙ sym ex ∙ t))

  pub second-crowded : {e f : ℕ} {x y : Bool} → e ≡ end1 bonds b → x ≡ crowded bonds m e → x ≡ false → f ≡ end2 bonds b → y ≡ crowded bonds m f → y ≡ crowded_ends bonds m b
  second-crowded e1 ex t e2 ey = ey ∙ ap (crowded bonds m) e2 ∙ sym (rw (sym (ap (crowded bonds m) e1) ∙ sym ex ∙ t))

  pub not_double : {k : ℕ} → k ≡ kind bonds b → (k ≡ 2 → ⊥) → false ≡ crowded_bond bonds m b
  not_double ek n = sym (rw (ne_eqb (kind bonds b) double (λ z. n (ek ∙ z))))

  pub is_double : {k : ℕ} {x : Bool} → k ≡ kind bonds b → k ≡ 2 → x ≡ crowded_ends bonds m b → x ≡ crowded_bond bonds m b
  is_double ek e ex = ex ∙ sym (rw (eq-eqb (kind bonds b) double (sym ek ∙ e)))

-- ---- a bond that a row chooses
module _ (bonds : List ℤ) (m b : ℕ) where
  pub not_chosen : {x : ℕ} → (x ≡ 1 → ⊥) → false ≡ (eqb x 1 && crowded_ends bonds m b)
  not_chosen {x} n = sym (rw (ne_eqb x 1 n))

  pub is-chosen : {x : ℕ} {y : Bool} → x ≡ 1 → y ≡ crowded_ends bonds m b → y ≡ (eqb x 1 && crowded_ends bonds m b)
  is-chosen {x} e ey = ey ∙ sym (rw (eq-eqb x 1 e))

-- without marks no chosen bond has a crowded end
pub unmarked-chosen : (bonds : List ℤ) (m : ℕ) (row : List ℕ) → unmarked bonds m ≡ true → none_crowded_by bonds m row ≡ true
unfolding none_crowded_by
unmarked-chosen bonds m row h = each_all (λ b. not (crowded_choice bonds m row b)) m (λ b l. rw (unmarked-uncrowded bonds m h (end1 bonds b), unmarked-uncrowded bonds m h (end2 bonds b)) (go (eqb (get_or row b 0) 1)))
  where
    go : (x : Bool) → not (x && false) ≡ true
    go true = refl
    go false = refl
