-- A law for each way through the code. Assumes nothing.
use Prim.Native.Nat.{ℕ, ◌-◌, ◌≤◌, ◌<◌}
use native.Mathlib.Omega.{arith}
use mathlib.Core.Path.{◌≡◌, sym, ap, ◌∙◌}
use mathlib.Core.Bool.{true, false, ◌||◌}
use mathlib.Core.List.{List, ◌++◌}
use lib.ListN.{length, take, drop, replicate}
use lib.IntN.{ℤ}
use lib.Dec.{eqb, ltb}
use borrow.Author.Tests.{eq-eqb, ne_eqb, le-leb, lt-leb}
use Rattle.loops.specs.Loop.{up_to}
use Rattle.loops.proofs.Loops.{filled-part}
use Rattle.kinds.specs.Kind.{elided, double}
use Rattle.table.specs.Limits.{max_bonds}
use Rattle.table.specs.Cells.{end1, end2, kind}
use Rattle.table.specs.Valid.{enough}
use Rattle.table.specs.Sound.{sound}
use Rattle.table.specs.Marks.{side}
use Rattle.conformation.specs.declared.Lowest.{Lowest}
use Rattle.conformation.specs.Sides.{other_end, lower, lowest_of, compared, side_of, sides_reply, sides_of}

-- ---- the other end
module _ (bonds : List ℤ) (a b : ℕ) {e : ℕ} (e1 : e ≡ end1 bonds b) where
  pub other-second : {f : ℕ} → e ≡ a → f ≡ end2 bonds b → f ≡ other_end bonds a b
  other-second q e2 = e2 ∙ sym (rw (eq-eqb (end1 bonds b) a (sym e1 ∙ q)))

  pub other-first : (e ≡ a → ⊥) → e ≡ other_end bonds a b
  other-first n = e1 ∙ sym (rw (ne_eqb (end1 bonds b) a (λ z. n (e1 ∙ z))))

-- ---- a lower neighbour
module _ (bonds : List ℤ) (a b : ℕ) (w : Lowest) {s : ℕ} (es : s ≡ side bonds a b) where
  pub not-marked : s ≡ 0 → w ≡ lower bonds a b w
  unfolding lower
  not-marked z = sym (rw (eq-eqb (side bonds a b) elided (sym es ∙ z)))

  module _ {x : ℕ} (n : s ≡ 0 → ⊥) (ex : x ≡ other_end bonds a b) where
    pub is-lower : (eqb w.side 0 || ltb x w.neighbour) ≡ true → record { neighbour = x; side = s } ≡ lower bonds a b w
    unfolding lower
    is-lower h = (λ i. record { neighbour = ex i; side = es i }) ∙ sym (rw (ne_eqb (side bonds a b) elided (λ z. n (es ∙ z)), sym (λ i. eqb w.side 0 || ltb (ex i) w.neighbour) ∙ h))

    pub not_lower : (eqb w.side 0 || ltb x w.neighbour) ≡ false → w ≡ lower bonds a b w
    unfolding lower
    not_lower h = sym (rw (ne_eqb (side bonds a b) elided (λ z. n (es ∙ z)), sym (λ i. eqb w.side 0 || ltb (ex i) w.neighbour) ∙ h))

-- ---- two sides compared
pub none-compared : (s t : ℕ) → (eqb s 0 || eqb t 0) ≡ true → 0 ≡ compared s t
unfolding compared
none-compared s t h = sym (rw h)

pub same-compared : (s t : ℕ) → (eqb s 0 || eqb t 0) ≡ false → s ≡ t → 1 ≡ compared s t
unfolding compared
same-compared s t h e = sym (rw (h, eq-eqb s t e))

pub opposite-compared : (s t : ℕ) → (eqb s 0 || eqb t 0) ≡ false → (s ≡ t → ⊥) → 2 ≡ compared s t
unfolding compared
opposite-compared s t h n = sym (rw (h, ne_eqb s t n))

-- ---- the cell of a bond
module _ (bonds : List ℤ) (m b : ℕ) {k : ℕ} (ek : k ≡ kind bonds b) where
  pub not_double : (k ≡ 2 → ⊥) → 0 ≡ side_of bonds m b
  unfolding side_of
  not_double n = sym (rw (ne_eqb (kind bonds b) double (λ z. n (ek ∙ z))))

  pub at-double : {e f r : ℕ} {x y : Lowest} → k ≡ 2 → e ≡ end1 bonds b → f ≡ end2 bonds b → x ≡ lowest_of bonds m e → y ≡ lowest_of bonds m f → r ≡ compared x.side y.side → r ≡ side_of bonds m b
  unfolding side_of
  at-double q e1 e2 ex ey er =
      er ∙ (λ i. compared ((ex ∙ ap (lowest_of bonds m) e1) i).side ((ey ∙ ap (lowest_of bonds m) e2) i).side)
      ∙ sym (rw (eq-eqb (kind bonds b) double (sym ek ∙ q)))

-- ---- the call
module _ (atoms bonds : List ℤ) (n m : ℕ) (row : List ℕ) where
  pub sides-short-row : length row < max_bonds → sides_reply 1 row ≡ sides_of atoms bonds n m row
  unfolding sides_of
  sides-short-row l = sym (rw (lt-leb max_bonds (length row) l))

  module _ (l : max_bonds ≤ length row) where
    pub sides-short : enough atoms bonds ≡ false → sides_reply 1 row ≡ sides_of atoms bonds n m row
    unfolding sides_of
    sides-short e = sym (rw (le-leb max_bonds (length row) l, e))

    module _ (e : enough atoms bonds ≡ true) where
      pub sides-invalid : {r : List ℕ} → sound atoms bonds n m ≡ false → r ≡ take 0 row ++ replicate (length row - 0) 0 → sides_reply 13 r ≡ sides_of atoms bonds n m row
      unfolding sides_of
      sides-invalid f er = ap (sides_reply 13) (er ∙ ap (λ (k : ℕ). replicate k 0) (whole (length row))) ∙ sym (rw (le-leb max_bonds (length row) l, e, f))
        where
          whole : (k : ℕ) → k - 0 ≡ k
          whole k = omega arith

      pub sides-done : {p r : List ℕ} → sound atoms bonds n m ≡ true → p ≡ up_to (side_of bonds m) 0 m ++ drop m row → length p ≡ length row → r ≡ take m p ++ replicate (length p - m) 0 → sides_reply 0 r ≡ sides_of atoms bonds n m row
      unfolding sides_of
      sides-done f ep el er =
          ap (sides_reply 0) (er ∙ (λ i. filled-part (side_of bonds m) m row ep i ++ replicate (el i - m) 0)) ∙ sym (rw (le-leb max_bonds (length row) l, e, f))
