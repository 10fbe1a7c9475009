-- Marks that are turned at the end of two texts: which are turned is told by the ranks of the bonds in the text, and behind another text all ranks of bridges move up by its bytes, all ranks of children by its atoms. Assumes nothing.
use Prim.Native.Nat.{ℕ, zero, suc, ◌+◌, ◌*◌, ◌≤◌, ◌<◌}
use native.Mathlib.Omega.{arith}
use mathlib.Core.Path.{◌≡◌, refl, sym, ap, subst, ◌∙◌}
use mathlib.Core.Bool.{Bool, true, false, true≢false}
use mathlib.Core.List.{List}
use lib.ListN.{get_or}
use lib.IntN.{ℤ, pos}
use lib.Dec.{eqb}
use borrow.Author.Tests.{ne_eqb}
use Rattle.loops.specs.Loop.{pick}
use Rattle.parity.specs.Mark.{mark_if}
use Rattle.ids.specs.Limits.{max_text}
use Rattle.table.specs.Limits.{ELEMENT, SELECTED, ISOTOPE, HYDROGENS, CHARGE, EXTENSION, MARK}
use Rattle.table.specs.Cells.{number, end2}
use Rattle.table.specs.Rows.{atom_row}
use Rattle.table.specs.Orders.{turns, turned_mark, turn_marks, at_end}
use Rattle.table.proofs.Orders.{turned-cell, turned-field}
use Rattle.reading.specs.Read.{rank_by, text_rank}
use Rattle.reading.specs.Claims.{with_mark}
use Rattle.mixture_rows.specs.Beside.{BondsBeside}
use Rattle.mixture_rows.proofs.Graph.{eqb-raised}
use Rattle.mixture_rows.proofs.Bonds.{first-end2, second-end2, at-end2}
use Rattle.mixture_rows.proofs.Orders.{Moved}
use Rattle.mixture.proofs.Behind.{raised}

-- ---- rows with their marks turned
turned-row : (rank : ℕ → ℕ → ℕ) (bonds : List ℤ) (m n : ℕ) (t : List ℤ) (a : ℕ) → a < n → atom_row (turn_marks rank bonds m n t) a ≡ with_mark (atom_row t a) (pos (turned_mark rank t bonds m a))
turned-row rank bonds m n t a l =
    let at : (f : ℕ) → f < MARK → _ = λ f h. turned-field rank bonds m n t a f (omega arith) (λ e. omega arith) in
    rw (at ELEMENT (omega arith), at SELECTED (omega arith), at ISOTOPE (omega arith), at HYDROGENS (omega arith), at CHARGE (omega arith), at EXTENSION (omega arith), turned-cell rank bonds m n t a l)

-- equal rows whose marks turn alike
pub same-turned : (rank rank' : ℕ → ℕ → ℕ) (b b' : List ℤ) (m m' n n' : ℕ) (t t' : List ℤ) (a a' : ℕ) → a < n → a' < n' → atom_row t' a' ≡ atom_row t a → turns (rank' a') t' b' m' a' ≡ turns (rank a) t b m a
    → atom_row (turn_marks rank' b' m' n' t') a' ≡ atom_row (turn_marks rank b m n t) a
unfolding turned_mark
same-turned rank rank' b b' m m' n n' t t' a a' l l' row turn =
    turned-row rank' b' m' n' t' a' l' ∙ (λ i. with_mark (row i) (pos (mark_if (turn i) (number (row i).mark)))) ∙ sym (turned-row rank b m n t a l)

-- ---- ranks
-- the rank of a bond behind n atoms and δ bytes
rank-moved : (n δ key second a : ℕ) → raised δ key ≤ max_text → Moved (max_text + 2) n δ (rank_by key second a) (rank_by (raised δ key) (n + second) (n + a))
rank-moved n δ zero second a h = split (eqb second a) (eqb (n + second) (n + a)) (eqb-raised n second a)
  where
    split : (x y : Bool) → y ≡ x → Moved (max_text + 2) n δ (pick x 0 (max_text + 2 + second)) (pick y 0 (max_text + 2 + (n + second)))
    split true true e = Moved.low (omega arith) refl
    split true false e = absurd (true≢false (sym e))
    split false true e = absurd (true≢false e)
    split false false e = Moved.child (omega arith) (omega arith)
rank-moved n δ (suc p) second a h = rw (ne_eqb (suc p) 0 (λ e. omega arith), ne_eqb (suc (δ + p)) 0 (λ e. omega arith)) (bridge p h)
  where
    bridge : (q : ℕ) → suc (δ + q) ≤ max_text → Moved (max_text + 2) n δ (suc q + 1) (suc (δ + q) + 1)
    bridge q g = Moved.bridge (omega arith) (omega arith) (omega arith)

module _ {n m k : ℕ} {bonds1 bonds2 bonds : List ℤ} (w : BondsBeside n m k bonds1 bonds2 bonds) where
  -- the first's bonds keep theirs
  pub first-rank : (keys keys' : List ℕ) → ((c : ℕ) → c < 2 * m → get_or keys' c 0 ≡ get_or keys c 0) → (a b : ℕ) → b < m → text_rank keys' bonds a b ≡ text_rank keys bonds1 a b
  unfolding text_rank
  first-rank keys keys' h a b l = λ i. rank_by (key i) (first-end2 w b l i) a
    where
      within : (x : Bool) → 2 * b + pick x 1 0 < 2 * m
      within true = omega arith
      within false = omega arith

      key : at_end keys' bonds a b ≡ at_end keys bonds1 a b
      key = ap (λ (e : ℕ). get_or keys' (2 * b + pick (eqb e a) 1 0) 0) (first-end2 w b l) ∙ h (2 * b + pick (eqb (end2 bonds1 b) a) 1 0) (within (eqb (end2 bonds1 b) a))

  -- those of the second move up
  pub second-rank : (δ : ℕ) (keys keys' : List ℕ) → ((c : ℕ) → get_or keys' (2 * m + c) 0 ≡ raised δ (get_or keys c 0)) → ((c : ℕ) → get_or keys' c 0 ≤ max_text)
      → (a b : ℕ) → b < k → Moved (max_text + 2) n δ (text_rank keys bonds2 a b) (text_rank keys' bonds (n + a) (m + b))
  unfolding text_rank
  second-rank δ keys keys' h g a b l =
      subst (λ (r : ℕ). Moved (max_text + 2) n δ (rank_by (at_end keys bonds2 a b) (end2 bonds2 b) a) r) (λ i. rank_by (sym key i) (sym (second-end2 w b l) i) (n + a))
      (rank-moved n δ (at_end keys bonds2 a b) (end2 bonds2 b) a (subst (λ (r : ℕ). r ≤ max_text) key (g (2 * (m + b) + pick (eqb (end2 bonds (m + b)) (n + a)) 1 0))))
    where
      key : at_end keys' bonds (n + a) (m + b) ≡ raised δ (at_end keys bonds2 a b)
      key =
          let x : ℕ = pick (eqb (end2 bonds2 b) a) 1 0 in
          let e : 2 * (m + b) + x ≡ 2 * m + (2 * b + x) = omega arith in
          ap (λ (t : Bool). get_or keys' (2 * (m + b) + pick t 1 0) 0) (at-end2 w a b l) ∙ ap (λ (c : ℕ). get_or keys' c 0) e ∙ h (2 * b + x)
