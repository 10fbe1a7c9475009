-- The hydrogens of the atoms outside brackets and the number of over-full ones, from the bond sums. Assumes nothing.
use Prim.Native.Nat.{ℕ, zero, suc, ◌+◌, ◌≤◌, ◌<◌}
use native.Mathlib.Omega.{arith}
use mathlib.Core.Path.{◌≡◌, refl, ap, ◌∙◌}
use mathlib.Core.Bool.{Bool, true, false}
use mathlib.Core.List.{List}
use lib.ListN.{length, get_or, set}
use lib.Seq.{get_or-set_other}
use lib.IntN.{ℤ, pos}
use lib.Dec.{eqb}
use borrow.Author.Tests.{eq-eqb, ne_eqb}
use Rattle.loops.specs.Loop.{pick, run, up_to}
use Rattle.loops.proofs.Loops.{Ran, ran-start, ran-step, ran-end, Edited, edited-start, edited-step, edited-end, up_to-at}
use Rattle.table.specs.Limits.{atom_cells, ELEMENT, SELECTED, HYDROGENS}
use Rattle.table.specs.Cells.{number, atom_place, atom_cell, element, selected}
use Rattle.valence.specs.declared.Reached.{Reached}
use Rattle.valence.specs.declared.Reached.TheVariants.{Target, NoTarget, AboveAll}
use Rattle.valence.specs.declared.Hydrogens.{Hydrogens}
use Rattle.valence.specs.Valence.{values_of, hydrogens_of, implied, overfull}
use Rattle.table_graph.specs.Graph.{bond_sum}
use Rattle.reading.specs.Read.{overfull_at, overfull_atoms}
use Rattle.reader.specs.Filled.{hydrogens_by, hydrogenated_by, overfull_by, overfulls_by, AtomFilled, AtomsFilled}

-- ---- one atom
module _ (t : List ℤ) (a x sum : ℕ) where
  pub atom-passed : {r : ℕ} → (x ≡ 1 → ⊥) → r ≡ 0 → AtomFilled x sum a t t r
  atom-passed n e = record { hydrogens = simp (ne_eqb x 1 n); overfull = e ∙ simp (ne_eqb x 1 n) }

  pub overfull-told : {e s r : ℕ} {h : Hydrogens} → x ≡ 1 → e ≡ element t a → s ≡ selected t a → h ≡ hydrogens_of e s sum → r ≡ (values_of h.reached).overfull → r ≡ overfull_by x sum t a
  overfull-told ex ee es eh er = er ∙ ap (λ y. (values_of y.reached).overfull) eh ∙ (λ i. overfull (ee i) (es i) sum) ∙ rw (eq-eqb x 1 ex)

-- an atom counts at most 1
one_at_most : (r : Reached) → (values_of r).overfull ≤ 1
one_at_most (Target t) = omega arith
one_at_most NoTarget = omega arith
one_at_most AboveAll = omega arith

by-at-most : (x sum : ℕ) (t : List ℤ) (a : ℕ) → overfull_by x sum t a ≤ 1
by-at-most x sum t a = go (eqb x 1)
  where
    go : (b : Bool) → pick b (overfull (element t a) (selected t a) sum) 0 ≤ 1
    go true = one_at_most (hydrogens_of (element t a) (selected t a) sum).reached
    go false = omega arith

-- the other cells stay
other-cell : (x sum b : ℕ) (t : List ℤ) (a f : ℕ) → f < atom_cells → (f ≡ HYDROGENS → ⊥) → atom_cell (hydrogens_by x sum b t) a f ≡ atom_cell t a f
other-cell x sum b t a f l n = go (eqb x 1)
  where
    h : ℤ
    h = pos (implied (element t b) (selected t b) sum)

    go : (y : Bool) → atom_cell (pick y (set t (atom_place b HYDROGENS) h) t) a f ≡ atom_cell t a f
    go true = get_or-set_other t (atom_place b HYDROGENS) (atom_place a f) h (pos 0) (λ e. n (omega arith))
    go false = refl

-- ---- the loop over the atoms
pub record Filling (outside sums : List ℕ) (t₀ : List ℤ) (n i : ℕ) (t : List ℤ) (k : ℕ) : Type 0 where
  pub hydrogens : Edited (λ a. hydrogens_by (get_or outside a 0) (get_or sums a 0) a) t₀ n i t
  pub overfull : Ran (λ a j. j + overfull_by (get_or outside a 0) (get_or sums a 0) t₀ a) 0 n i k
  pub elements : (a : ℕ) → element t a ≡ element t₀ a
  pub selections : (a : ℕ) → selected t a ≡ selected t₀ a
  pub few : k ≤ i

pub filling-start : {outside sums : List ℕ} {t : List ℤ} {n : ℕ} → Filling outside sums t n 0 t 0
filling-start = record { hydrogens = edited-start; overfull = ran-start; elements = λ a. refl; selections = λ a. refl; few = omega arith }

module _ {outside sums : List ℕ} {t₀ : List ℤ} {n i : ℕ} {t : List ℤ} {k : ℕ} (v : Filling outside sums t₀ n i t k) where
  pub filling_step : {t' : List ℤ} {r : ℕ} → i < n → AtomFilled (get_or outside i 0) (get_or sums i 0) i t t' r → length t' ≡ length t → Filling outside sums t₀ n (i + 1) t' (k + r)
  filling_step {t'} {r} l f e =
      let x = get_or outside i 0 in
      let sum = get_or sums i 0 in
      let told : r ≡ overfull_by x sum t₀ i = f.overfull ∙ (λ j. pick (eqb x 1) (overfull (v.elements i j) (v.selections i j) sum) 0) in
      record {
        hydrogens = edited-step v.hydrogens t' l f.hydrogens e;
        overfull = ran-step v.overfull (k + r) l (ap (λ (z : ℕ). k + z) told);
        elements = λ a. ap number (ap (λ (u : List ℤ). atom_cell u a ELEMENT) f.hydrogens ∙ other-cell x sum i t a ELEMENT (omega arith) (λ z. omega arith)) ∙ v.elements a;
        selections = λ a. ap number (ap (λ (u : List ℤ). atom_cell u a SELECTED) f.hydrogens ∙ other-cell x sum i t a SELECTED (omega arith) (λ z. omega arith)) ∙ v.selections a;
        few = omega (arith, v.few, told, by-at-most x sum t₀ i);
      }

  pub filling-adds : {t' : List ℤ} {r : ℕ} → AtomFilled (get_or outside i 0) (get_or sums i 0) i t t' r → k + r ≤ i + 1
  filling-adds f = omega (arith, v.few, f.overfull, by-at-most (get_or outside i 0) (get_or sums i 0) t i)

  pub filling-end : n ≤ i → AtomsFilled outside sums n t₀ t k
  unfolding hydrogenated_by overfulls_by
  filling-end h = record { hydrogens = edited-end v.hydrogens h; overfull = ran-end v.overfull h }

-- ---- counted from the bond sums, the over-full atoms are the molecule's
pub overfulls-by : (outside : List ℕ) (bonds : List ℤ) (n m len : ℕ) (t : List ℤ) {sums : List ℕ} → sums ≡ up_to (bond_sum bonds m) 0 len → n ≤ len → overfulls_by outside sums n t ≡ overfull_atoms outside bonds m n t
unfolding overfulls_by overfull_atoms run
overfulls-by outside bonds n m len t {sums} e l = go 0 n 0 (omega arith)
  where
    one : (a : ℕ) → a < len → overfull_by (get_or outside a 0) (get_or sums a 0) t a ≡ overfull_at outside bonds m t a
    one a h = rw (e, up_to-at (bond_sum bonds m) len a 0 h)

    go : (k c j : ℕ) → k + c ≤ len → run (λ a i. i + overfull_by (get_or outside a 0) (get_or sums a 0) t a) k c j ≡ run (λ a i. i + overfull_at outside bonds m t a) k c j
    go k zero j h = refl
    go k (suc c) j h =
        ap (λ (z : ℕ). run (λ a i. i + overfull_by (get_or outside a 0) (get_or sums a 0) t a) (suc k) c (j + z)) (one k (omega arith)) ∙ go (suc k) c (j + overfull_at outside bonds m t k) (omega arith)
