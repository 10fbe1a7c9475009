-- A matrix cell by cell: the bonds added one by one give the orders between atoms. Assumes nothing.
use mathlib.Core.Path.{◌≡◌, refl, ap, ◌∙◌}
use mathlib.Core.Bool.{Bool, true, false, ◌&&◌, ◌||◌}
use mathlib.Core.List.{List}
use Prim.Native.Nat.{ℕ, zero, suc, ◌+◌, ◌*◌, ◌<◌, ◌≤◌}
use native.Mathlib.Omega.{arith}
use native.Mathlib.Nat.{add-zero}
use lib.IntN.{ℤ}
use lib.Dec.{eqb}
use lib.ListN.{length, get_or, length-set}
use borrow.Author.Tests.{eqb-true, eq-eqb}
use Rattle.loops.specs.Loop.{pick, run}
use Rattle.loops.proofs.Loops.{Ran, ran-start, ran-step, ran-end, and_left, and_right}
use Rattle.matching.proofs.Graph.{and_intro, same_bool}
use Rattle.table.specs.Cells.{end1, end2, kind}
use Rattle.kinds.specs.Kind.{order}
use Rattle.table_graph.specs.Built.{bump}
use Rattle.kinds.proofs.Kind.{order_small}
use Rattle.same_model.specs.Same.{max_same}
use Rattle.same_place.specs.Place.{entry}
use Rattle.same_keys.specs.Keys.{Low}
use Rattle.same_keys.proofs.Low.{bump_at, bump-low, low-more}
use Rattle.same_drawing.specs.Drawing.{cells, settled_order, drawn_order, with_order, with_bond, Ends}

pub drawn-small : (k c : ℕ) → settled_order k c ≤ 3
drawn-small k c = go (eqb c 1)
  where
    go : (z : Bool) → pick z 2 (order k) ≤ 3
    go true = omega arith
    go false = order_small k

module _ (bonds : List ℤ) (c k : ℕ) (o : List ℕ) where
  pub with-length : length (with_order bonds c k o) ≡ length o
  unfolding with_order
  with-length = simp length-set

  pub with-low : (h : ℕ) → Low o h → Low (with_order bonds c k o) (h + 6)
  unfolding with_order
  with-low h w =
      let x = drawn_order bonds c k in
      low-more (bump-low (bump o (max_same * end1 bonds k + end2 bonds k) x) (max_same * end2 bonds k + end1 bonds k) x (h + x) (bump-low o (max_same * end1 bonds k + end2 bonds k) x h w)) (omega (arith, drawn-small (kind bonds k) c))

-- two places of a matrix are one exactly if row and column are
pub same_place : (e f a b : ℕ) → f < max_same → b < max_same → eqb (max_same * e + f) (max_same * a + b) ≡ (eqb e a && eqb f b)
same_place e f a b l h =
    same_bool (eqb (max_same * e + f) (max_same * a + b)) (eqb e a && eqb f b)
    (λ q.
    let u : max_same * e + f ≡ max_same * a + b = eqb-true (max_same * e + f) (max_same * a + b) q in
    let i : e ≡ a = omega arith in
    and_intro (eqb e a) (eqb f b) (eq-eqb e a i) (eq-eqb f b (omega arith)))
    (λ q.
    let i : e ≡ a = eqb-true e a (and_left (eqb e a) (eqb f b) q) in
    let j : f ≡ b = eqb-true f b (and_right (eqb e a) (eqb f b) q) in
    eq-eqb (max_same * e + f) (max_same * a + b) (omega arith))

inside : (a b : ℕ) → a < max_same → b < max_same → max_same * a + b < cells
inside a b l h = omega arith

one_of : (e f a b x : ℕ) → e < f → pick (eqb e a && eqb f b) x 0 + pick (eqb f a && eqb e b) x 0 ≡ pick ((eqb e a && eqb f b) || (eqb e b && eqb f a)) x 0
one_of e f a b x l = go (eqb e a) (eqb f b) (eqb f a) (eqb e b) refl refl
  where
    go : (p q r s : Bool) → eqb e a ≡ p → eqb f a ≡ r → pick (p && q) x 0 + pick (r && s) x 0 ≡ pick ((p && q) || (s && r)) x 0
    go true q true s g h = let u = eqb-true e a g in let w = eqb-true f a h in absurd (omega arith)
    go true true false true g h = add-zero x
    go true true false false g h = add-zero x
    go true false false true g h = refl
    go true false false false g h = refl
    go false q true true g h = omega arith
    go false q true false g h = refl
    go false q false true g h = refl
    go false q false false g h = refl

-- what the bond k adds to the cell of a and b
module _ (bonds : List ℤ) (a b : ℕ) (la : a < max_same) (lb : b < max_same) where
  abbrev pub adds : List ℕ → ℕ → ℕ
  adds row k = pick ((eqb (end1 bonds k) a && eqb (end2 bonds k) b) || (eqb (end1 bonds k) b && eqb (end2 bonds k) a)) (drawn_order bonds (get_or row k 0) k) 0

  with_at : (row : List ℕ) (k : ℕ) (o : List ℕ) → length o ≡ cells → Ends bonds k → entry (with_bond bonds row k o) a b ≡ entry o a b + adds row k
  unfolding with_order
  with_at row k o l w =
      let e = end1 bonds k in
      let f = end2 bonds k in
      let x = drawn_order bonds (get_or row k 0) k in
      let i : max_same * a + b < length o = omega (arith, inside a b la lb) in
      let j : max_same * a + b < length (bump o (max_same * e + f) x) = simp length-set i in
      let s1 = bump_at o (max_same * e + f) x (max_same * a + b) i in
      let s2 = bump_at (bump o (max_same * e + f) x) (max_same * f + e) x (max_same * a + b) j in
      let p1 = ap (λ (z : Bool). pick z x 0) (same_place e f a b w.second lb) in
      let p2 = ap (λ (z : Bool). pick z x 0) (same_place f e a b (omega (arith, w.order, w.second)) lb) in
      let q = one_of e f a b x w.order in
      omega arith

  pub run_at : (row : List ℕ) (k j : ℕ) (o : List ℕ) → length o ≡ cells → ((i : ℕ) → k ≤ i → i < k + j → Ends bonds i) → entry (run (with_bond bonds row) k j o) a b ≡ run (λ (i s : ℕ). s + adds row i) k j (entry o a b)
  unfolding run
  run_at row k zero o l h = refl
  run_at row k (suc j) o l h =
      run_at row (suc k) j (with_bond bonds row k o) (with-length bonds (get_or row k 0) k o ∙ l) (λ i u v. h i (omega arith) (omega arith))
      ∙ ap (run (λ (i s : ℕ). s + adds row i) (suc k) j) (with_at row k o l (h k (omega arith) (omega arith)))

-- the loop over the bonds stands at k
pub record Drawing (bonds : List ℤ) (row : List ℕ) (o₀ : List ℕ) (m k : ℕ) (o : List ℕ) : Type 0 where
  pub ran : Ran (with_bond bonds row) o₀ m k o
  pub low : Low o (40000 + 6 * k)

pub drawing-start : {bonds : List ℤ} {row : List ℕ} {m : ℕ} {o : List ℕ} → Low o 40000 → Drawing bonds row o m 0 o
drawing-start w = record { ran = ran-start; low = low-more w (omega arith) }

module _ {bonds : List ℤ} {row o₀ : List ℕ} {m k : ℕ} {o : List ℕ} (w : Drawing bonds row o₀ m k o) where
  pub drawing-step : k < m → {o' : List ℕ} → o' ≡ with_order bonds (get_or row k 0) k o → Drawing bonds row o₀ m (k + 1) o'
  drawing-step l {o'} e =
      record {
        ran = ran-step w.ran o' l e;
        low = rw e (low-more (with-low bonds (get_or row k 0) k o (40000 + 6 * k) w.low) (omega arith));
      }

  pub drawing-end : m ≤ k → o ≡ run (with_bond bonds row) 0 m o₀
  drawing-end h = ran-end w.ran h

-- both places of a bond
module _ (bonds : List ℤ) (k c : ℕ) (o : List ℕ) {e f x : ℕ} (pe : e ≡ end1 bonds k) (pf : f ≡ end2 bonds k) (px : x ≡ settled_order (kind bonds k) c) where
  pub small : x ≤ 3
  small = omega (arith, px, drawn-small (kind bonds k) c)

  pub both-places : {o1 o2 : List ℕ} → o1 ≡ bump o (max_same * e + f) x → o2 ≡ bump o1 (max_same * f + e) x → o2 ≡ with_order bonds c k o
  unfolding with_order
  both-places g h = h ∙ rw (g, pe, pf, px)

  pub first-place : Ends bonds k → (e < max_same) × (f < max_same) × (x ≤ 3)
  first-place w = (omega (arith, pe, w.order, w.second), omega (arith, pf, w.second), small)

  pub second-place : Ends bonds k → (f < max_same) × (e < max_same) × (x ≤ 3)
  second-place w = (omega (arith, pf, w.second), omega (arith, pe, w.order, w.second), small)

  pub raised-low : Low o 50000 → {o1 : List ℕ} → o1 ≡ bump o (max_same * e + f) x → Low o1 60000
  raised-low w g = rw g (low-more (bump-low o (max_same * e + f) x 50000 w) (omega (arith, small)))
