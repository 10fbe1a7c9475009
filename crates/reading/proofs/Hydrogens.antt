-- What giving the hydrogens does to the atom table: one cell of each atom outside brackets, and no other. Assumes nothing.
use Prim.Native.Nat.{ℕ, zero, suc, ◌+◌, ◌*◌, ◌≤◌, ◌<◌}
use native.Mathlib.Omega.{arith}
use native.Mathlib.Decide.{ℕ_discrete}
use mathlib.Core.Path.{◌≡◌, refl, sym, ap, subst, ◌∙◌}
use mathlib.Core.Bool.{Bool, true, false, ◌&&◌}
use mathlib.Core.List.{List}
use lib.ListN.{length, get_or, set, length-set}
use lib.Seq.{get_or-set_same, get_or-set_other}
use lib.IntN.{ℤ, pos, negsuc}
use lib.Dec.{eqb}
use borrow.Author.Tests.{eq-eqb, eqb-true}
use Rattle.loops.specs.Loop.{run}
use Rattle.reading_grammar.proofs.Ends.{never}
use Rattle.valence.specs.Valence.{implied}
use Rattle.valence.proofs.Count.{implied-within}
use Rattle.table.specs.declared.Atom.{Atom}
use Rattle.table.specs.Limits.{atom_cells, ELEMENT, SELECTED, ISOTOPE, HYDROGENS, CHARGE, EXTENSION, MARK}
use Rattle.table.specs.Cells.{in_range, atom_place, atom_cell, element, selected}
use Rattle.table.specs.Rows.{atom_row}
use Rattle.table.specs.Valid.{atom_ok, max_mark, selection_ok, atom_row_ok}
use Rattle.table_graph.specs.Graph.{bond_sum}
use Rattle.reading.specs.Read.{hydrogenate, hydrogenated}
use Rattle.reading.specs.Claims.{with_hydrogens}
use Rattle.reading.proofs.Cases.{by-test}
use Rattle.table.proofs.Rows.{same-atom-row}
use Rattle.table.proofs.Valid.{range-of}
use Rattle.reading.proofs.Rows.{row_ok, atom-ok-row}

module _ (outside : List ℕ) (bonds : List ℤ) (m : ℕ) where
  -- ---- one atom
  abbrev count : ℕ → List ℤ → ℤ
  count a t = pos (implied (element t a) (selected t a) (bond_sum bonds m a))

  one-length : (a : ℕ) (t : List ℤ) → length (hydrogenate outside bonds m a t) ≡ length t
  one-length a t = by-test (λ (u : List ℤ). length u ≡ length t) (eqb (get_or outside a 0) 1) (set t (atom_place a HYDROGENS) (count a t)) t (λ e. length-set t (atom_place a HYDROGENS) (count a t)) (λ e. refl)

  one-other : (a : ℕ) (t : List ℤ) (j : ℕ) → (get_or outside a 0 ≡ 1 → j ≡ atom_place a HYDROGENS → ⊥) → get_or (hydrogenate outside bonds m a t) j (pos 0) ≡ get_or t j (pos 0)
  one-other a t j n = by-test (λ (u : List ℤ). get_or u j (pos 0) ≡ get_or t j (pos 0)) (eqb (get_or outside a 0) 1) (set t (atom_place a HYDROGENS) (count a t)) t (λ e. get_or-set_other t (atom_place a HYDROGENS) j (count a t) (pos 0) (n (eqb-true (get_or outside a 0) 1 e))) (λ e. refl)

  one-given : (a : ℕ) (t : List ℤ) → get_or outside a 0 ≡ 1 → atom_place a HYDROGENS < length t → atom_cell (hydrogenate outside bonds m a t) a HYDROGENS ≡ pos (implied (element t a) (selected t a) (bond_sum bonds m a))
  one-given a t e l = rw (eq-eqb (get_or outside a 0) 1 e) (get_or-set_same t (atom_place a HYDROGENS) (pos (implied (element t a) (selected t a) (bond_sum bonds m a))) (pos 0) l)

  -- ---- c atoms from k on
  run_length : (c k : ℕ) (t : List ℤ) → length (run (hydrogenate outside bonds m) k c t) ≡ length t
  unfolding run
  run_length zero k t = refl
  run_length (suc c) k t = run_length c (suc k) (hydrogenate outside bonds m k t) ∙ one-length k t

  run-other : (c k : ℕ) (t : List ℤ) (j : ℕ) → ((a : ℕ) → k ≤ a → a < k + c → get_or outside a 0 ≡ 1 → j ≡ atom_place a HYDROGENS → ⊥)
      → get_or (run (hydrogenate outside bonds m) k c t) j (pos 0) ≡ get_or t j (pos 0)
  unfolding run
  run-other zero k t j n = refl
  run-other (suc c) k t j n =
      run-other c (suc k) (hydrogenate outside bonds m k t) j (λ a l h. n a (omega arith) (omega arith)) ∙ one-other k t j (n k (omega arith) (omega arith))

  run-given : (c k : ℕ) (t : List ℤ) (a : ℕ) → k ≤ a → a < k + c → get_or outside a 0 ≡ 1 → atom_place a HYDROGENS < length t
      → atom_cell (run (hydrogenate outside bonds m) k c t) a HYDROGENS ≡ pos (implied (element t a) (selected t a) (bond_sum bonds m a))
  unfolding run
  run-given zero k t a l h e r = absurd (omega arith)
  run-given (suc c) k t a l h e r = split (ℕ_discrete a k) (λ g. run-given c (suc k) (hydrogenate outside bonds m k t) a g (omega arith) e (rw (one-length k t) r))
    where
      split : Dec (a ≡ k)
          → (suc k ≤ a → atom_cell (run (hydrogenate outside bonds m) (suc k) c (hydrogenate outside bonds m k t)) a HYDROGENS ≡ pos (implied (element (hydrogenate outside bonds m k t) a) (selected (hydrogenate outside bonds m k t) a) (bond_sum bonds m a)))
          → atom_cell (run (hydrogenate outside bonds m) (suc k) c (hydrogenate outside bonds m k t)) a HYDROGENS ≡ pos (implied (element t a) (selected t a) (bond_sum bonds m a))
      split (yes q) rest =
          run-other c (suc k) (hydrogenate outside bonds m k t) (atom_place a HYDROGENS) (λ x lx hx ex jx. omega arith)
          ∙ subst (λ x. atom_cell (hydrogenate outside bonds m x t) a HYDROGENS ≡ pos (implied (element t a) (selected t a) (bond_sum bonds m a))) q (one-given a t e r)
      split (no n) rest =
          rest (omega arith) ∙ rw (one-other k t (atom_place a ELEMENT) (λ ex jx. omega arith), one-other k t (atom_place a SELECTED) (λ ex jx. omega arith))

  -- ---- n atoms
  module _ (n : ℕ) (t : List ℤ) where
    pub hydrogenated-length : length (hydrogenated outside bonds m n t) ≡ length t
    unfolding hydrogenated
    hydrogenated-length = run_length n 0 t

    -- every cell stays that is not the hydrogens of an atom outside brackets
    pub hydrogenated-other : (j : ℕ) → ((a : ℕ) → a < n → get_or outside a 0 ≡ 1 → j ≡ atom_place a HYDROGENS → ⊥) → get_or (hydrogenated outside bonds m n t) j (pos 0) ≡ get_or t j (pos 0)
    unfolding hydrogenated
    hydrogenated-other j f = run-other n 0 t j (λ a l h. f a (omega arith))

    -- an atom outside brackets has the hydrogens that its element, its selection and its bonds imply
    pub hydrogenated-given : (a : ℕ) → a < n → get_or outside a 0 ≡ 1 → atom_place a HYDROGENS < length t → atom_cell (hydrogenated outside bonds m n t) a HYDROGENS ≡ pos (implied (element t a) (selected t a) (bond_sum bonds m a))
    unfolding hydrogenated
    hydrogenated-given a l e r = run-given n 0 t a (omega arith) (omega arith) e r

-- ---- the count fits its cell
pub implied-small : (e selected sum : ℕ) → implied e selected sum ≤ 9
implied-small e selected sum = omega (arith, implied-within e selected sum)

-- ---- a valid row stays valid
swap : (a b h k c d f e : Bool) → (a && b && h && c && d && f && e) ≡ true → k ≡ true → (a && b && k && c && d && f && e) ≡ true
swap true true true true c d f e p q = p
swap true true true false c d f e p q = never q
swap true true false k c d f e p q = never p
swap true false h k c d f e p q = never p
swap false b h k c d f e p q = never p

with-hydrogens : (x : Atom) (h : ℕ) → row_ok x ≡ true → h ≤ 9 → row_ok (with_hydrogens x (pos h)) ≡ true
unfolding atom_row_ok
with-hydrogens x h ok l =
    swap (in_range x.element (pos 0) (pos 118)) (in_range x.isotope (pos 0) (pos 999)) (in_range x.hydrogens (pos 0) (pos 9)) (in_range (pos h) (pos 0) (pos 9))
    (in_range x.charge (negsuc 8) (pos 9)) (in_range x.extension (pos 0) (pos 9999)) (in_range x.mark (pos 0) (pos max_mark))
    (selection_ok x.element x.selected) ok (range-of h 9 l)

-- the row of an atom that got its hydrogens, and of another
pub row-given : (outside : List ℕ) (bonds : List ℤ) (m n : ℕ) (t : List ℤ) (a : ℕ) → a < n → atom_cells * a + atom_cells ≤ length t → get_or outside a 0 ≡ 1
    → atom_row (hydrogenated outside bonds m n t) a ≡ with_hydrogens (atom_row t a) (pos (implied (element t a) (selected t a) (bond_sum bonds m a)))
row-given outside bonds m n t a l r e =
    rw (
      hydrogenated-other outside bonds m n t (atom_place a ELEMENT) (λ x lx ex jx. omega arith),
      hydrogenated-other outside bonds m n t (atom_place a SELECTED) (λ x lx ex jx. omega arith),
      hydrogenated-other outside bonds m n t (atom_place a ISOTOPE) (λ x lx ex jx. omega arith),
      hydrogenated-given outside bonds m n t a l e (omega arith),
      hydrogenated-other outside bonds m n t (atom_place a CHARGE) (λ x lx ex jx. omega arith),
      hydrogenated-other outside bonds m n t (atom_place a EXTENSION) (λ x lx ex jx. omega arith),
      hydrogenated-other outside bonds m n t (atom_place a MARK) (λ x lx ex jx. omega arith),
    )

pub row_kept : (outside : List ℕ) (bonds : List ℤ) (m n : ℕ) (t : List ℤ) (a : ℕ) → (get_or outside a 0 ≡ 1 → ⊥) → atom_row (hydrogenated outside bonds m n t) a ≡ atom_row t a
row_kept outside bonds m n t a f = same-atom-row (hydrogenated outside bonds m n t) t a (λ g h. hydrogenated-other outside bonds m n t (atom_place a g) (other g h))
  where
    other : (g : ℕ) → g < atom_cells → (x : ℕ) → x < n → get_or outside x 0 ≡ 1 → atom_place a g ≡ atom_place x HYDROGENS → ⊥
    other g h x lx ex jx = let q : x ≡ a = omega arith in f (rw q at ex)

pub hydrogenated-ok : (outside : List ℕ) (bonds : List ℤ) (m n : ℕ) (t : List ℤ) (a : ℕ) → a < n → atom_cells * a + atom_cells ≤ length t → atom_ok t a ≡ true → atom_ok (hydrogenated outside bonds m n t) a ≡ true
hydrogenated-ok outside bonds m n t a l r ok = split (ℕ_discrete (get_or outside a 0) 1)
  where
    h : ℕ
    h = implied (element t a) (selected t a) (bond_sum bonds m a)

    split : Dec (get_or outside a 0 ≡ 1) → atom_ok (hydrogenated outside bonds m n t) a ≡ true
    split (yes e) =
        atom-ok-row (hydrogenated outside bonds m n t) a
        ∙ ap row_ok (row-given outside bonds m n t a l r e)
        ∙ with-hydrogens (atom_row t a) h (sym (atom-ok-row t a) ∙ ok) (implied-small (element t a) (selected t a) (bond_sum bonds m a))
    split (no f) = atom-ok-row (hydrogenated outside bonds m n t) a ∙ ap row_ok (row_kept outside bonds m n t a f) ∙ sym (atom-ok-row t a) ∙ ok
