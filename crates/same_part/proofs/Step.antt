-- The matrix of a molecule whose row is partly decided, bond by bond. Assumes nothing.
use mathlib.Core.Path.{◌≡◌, sym, ap, ◌∙◌}
use mathlib.Core.Bool.{Bool, true, false, ◌&&◌, not}
use mathlib.Core.List.{List}
use Prim.Native.Nat.{ℕ, ◌+◌, ◌*◌, ◌<◌, ◌≤◌}
use native.Mathlib.Omega.{arith}
use lib.IntN.{ℤ}
use lib.Dec.{eqb, ltb}
use lib.ListN.{length, get_or, replicate, length-set}
use Rattle.loops.specs.Loop.{pick, run}
use Rattle.loops.proofs.Loops.{Ran, ran-start, ran-step, ran-end}
use Rattle.table.specs.Cells.{end1, end2, kind}
use Rattle.kinds.specs.Kind.{order}
use Rattle.kinds.proofs.Kind.{order_small}
use Rattle.table_graph.specs.Built.{bump}
use Rattle.same_model.specs.Same.{max_same}
use Rattle.same_keys.specs.Keys.{Low}
use Rattle.same_keys.proofs.Low.{bump-low, low-more, low_same, zeros-low}
use Rattle.same_drawing.specs.Drawing.{cells, Ends}
use Rattle.same_drawing.proofs.Matrix.{drawn-small}
use Rattle.same_open.specs.Open.{open_bond}
use Rattle.same_part.specs.Value.{part_value, with_value}
use Rattle.same_part.specs.Part.{part_order, with_part, part_matrix}

pub value-small : (k o c : ℕ) (d : Bool) → part_value k o c d ≤ open_bond
value-small k o c true = omega (arith, drawn-small k c)
value-small k o c false = go (eqb o 1)
  where
    go : (z : Bool) → pick z open_bond (order k) ≤ open_bond
    go true = omega arith
    go false = omega (arith, order_small k)

-- the return paths of a value
module _ (k o c : ℕ) where
  pub value-chosen : (d : Bool) → (d && eqb c 1) ≡ true → 2 ≡ part_value k o c d
  value-chosen true e = sym (ap (λ (z : Bool). pick z 2 (order k)) e)
  value-chosen false e = cc

  pub value-open : (d : Bool) → (not d && eqb o 1) ≡ true → open_bond ≡ part_value k o c d
  value-open true e = cc
  value-open false e = sym (ap (λ (z : Bool). pick z open_bond (order k)) e)

  pub value-order : (d : Bool) {r : ℕ} → (d && eqb c 1) ≡ false → (not d && eqb o 1) ≡ false → r ≡ order k → r ≡ part_value k o c d
  value-order true e f h = h ∙ sym (ap (λ (z : Bool). pick z 2 (order k)) e)
  value-order false e f h = h ∙ sym (ap (λ (z : Bool). pick z open_bond (order k)) f)

module _ (bonds : List ℤ) (x k : ℕ) (p : List ℕ) where
  pub value-length : length (with_value bonds x k p) ≡ length p
  value-length = simp length-set

  pub value_low : (h : ℕ) → x ≤ open_bond → Low p h → Low (with_value bonds x k p) (h + 34)
  value_low h l w =
      low-more
      (bump-low (bump p (max_same * end1 bonds k + end2 bonds k) x) (max_same * end2 bonds k + end1 bonds k) x (h + x) (bump-low p (max_same * end1 bonds k + end2 bonds k) x h w))
      (omega arith)

-- both places of a bond
module _ (bonds : List ℤ) (k v : ℕ) (p : List ℕ) {e f x : ℕ} (pe : e ≡ end1 bonds k) (pf : f ≡ end2 bonds k) (px : x ≡ v) (l : v ≤ open_bond) where
  pub both-places : {p1 p2 : List ℕ} → p1 ≡ bump p (max_same * e + f) x → p2 ≡ bump p1 (max_same * f + e) x → p2 ≡ with_value bonds v k p
  both-places g h = h ∙ rw (g, pe, pf, px)

  pub first-place : Ends bonds k → (e < max_same) × (f < max_same) × (x ≤ open_bond)
  first-place w = (omega (arith, pe, w.order, w.second), omega (arith, pf, w.second), omega (arith, px, l))

  pub second-place : Ends bonds k → (f < max_same) × (e < max_same) × (x ≤ open_bond)
  second-place w = (omega (arith, pf, w.second), omega (arith, pe, w.order, w.second), omega (arith, px, l))

  pub raised-low : Low p 50000 → {p1 : List ℕ} → p1 ≡ bump p (max_same * e + f) x → Low p1 60000
  raised-low w g = rw g (low-more (bump-low p (max_same * e + f) x 50000 w) (omega (arith, px, l)))

-- the loop over the bonds stands at k
pub record Filling (bonds : List ℤ) (opened row : List ℕ) (to : ℕ) (p₀ : List ℕ) (m k : ℕ) (p : List ℕ) : Type 0 where
  pub ran : Ran (with_part bonds opened row to) p₀ m k p
  pub low : Low p (34 * k)

pub filling-start : {bonds : List ℤ} {opened row : List ℕ} {to m : ℕ} {p : List ℕ} → p ≡ replicate cells 0 → Filling bonds opened row to p m 0 p
filling-start e = record { ran = ran-start; low = low_same e (zeros-low cells (34 * 0)) }

module _ {bonds : List ℤ} {opened row : List ℕ} {to : ℕ} {p₀ : List ℕ} {m k : ℕ} {p : List ℕ} (w : Filling bonds opened row to p₀ m k p) where
  pub filling_step : k < m → {p' : List ℕ} → p' ≡ with_value bonds (part_value (kind bonds k) (get_or opened k 0) (get_or row k 0) (ltb k to)) k p → Filling bonds opened row to p₀ m (k + 1) p'
  unfolding with_part part_order
  filling_step l {p'} e =
      let x = part_value (kind bonds k) (get_or opened k 0) (get_or row k 0) (ltb k to) in
      record {
        ran = ran-step w.ran p' l e;
        low = low_same e (low-more (value_low bonds x k p (34 * k) (value-small (kind bonds k) (get_or opened k 0) (get_or row k 0) (ltb k to)) w.low) (omega arith));
      }

  pub filling-end : p₀ ≡ replicate cells 0 → m ≤ k → p ≡ part_matrix bonds opened row to m
  unfolding part_matrix
  filling-end e h = ran-end w.ran h ∙ ap (run (with_part bonds opened row to) 0 m) e
