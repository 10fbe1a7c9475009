-- A molecule with its row partly decided is drawn, with open bonds, as each matching that begins so draws it. Assumes nothing.
use mathlib.Core.Path.{◌≡◌, refl, sym, ap, ◌∙◌}
use mathlib.Core.Bool.{Bool, true, false}
use mathlib.Core.List.{List}
use Prim.Native.Nat.{ℕ, zero, suc, ◌+◌, ◌*◌, ◌<◌, ◌≤◌}
use native.Mathlib.Omega.{arith}
use lib.IntN.{ℤ}
use lib.Dec.{eqb, ltb}
use lib.ListN.{length, get_or, take, replicate, length-set, length-replicate}
use lib.Seq.{get_or-take}
use borrow.Author.Tests.{eqb-true, eqb-false, ne_eqb, ltb-true}
use Rattle.loops.specs.Loop.{pick, run}
use Rattle.table.specs.Cells.{end1, end2, kind}
use Rattle.kinds.specs.Kind.{elided, order}
use Rattle.matching.specs.Enumeration.{is_row}
use Rattle.table_graph.specs.Graph.{matching_of}
use Rattle.table_graph.specs.Built.{bump}
use Rattle.same_model.specs.Same.{max_same, image}
use Rattle.same_place.specs.Place.{entry}
use Rattle.same_keys.proofs.Low.{bump_at}
use Rattle.same_drawing.specs.Drawing.{cells, settled_order, drawn_order, with_order}
use Rattle.same_open.specs.Open.{open_bond, Draws, Way}
use Rattle.same_part.specs.Value.{with_value}
use Rattle.same_part.specs.Part.{part_order, with_part, part_matrix, closed_matrix, Opens}
use Rattle.same_open.proofs.Laws.{agree-turned, agree-drawn}
use Rattle.same_part.proofs.Drawn.{draws-same, draws-open, draws-add, draws-pick, draws-eq}
use Rattle.same_part.proofs.Step.{value-length}

-- a cell raised in two matrices
draws-bump : (e i x y : ℕ) (o p : List ℕ) → i < length o → i < length p → Draws x y → Draws (get_or o i 0) (get_or p i 0) → Draws (get_or (bump o e x) i 0) (get_or (bump p e y) i 0)
draws-bump e i x y o p lo lp d w = draws-eq (bump_at o e x i lo) (bump_at p e y i lp) (draws-add w (draws-pick (eqb e i) d))

abbrev steps : List ℤ → (ℕ → ℕ) → ℕ → List ℕ → List ℕ
steps bonds x k o = with_value bonds (x k) k o

module _ (bonds : List ℤ) (a b : ℕ) (la : a < max_same) (lb : b < max_same) where
  inside : (o : List ℕ) → length o ≡ cells → max_same * a + b < length o
  inside o l = omega (arith, l)

  -- a bond added to two matrices
  draws-value : (k x y : ℕ) (o p : List ℕ) → length o ≡ cells → length p ≡ cells → Draws x y → Draws (entry o a b) (entry p a b) → Draws (entry (with_value bonds x k o) a b) (entry (with_value bonds y k p) a b)
  draws-value k x y o p lo lp d w =
      let e = max_same * end1 bonds k + end2 bonds k in
      let f = max_same * end2 bonds k + end1 bonds k in
      let i = max_same * a + b in
      let io = inside o lo in
      let ip = inside p lp in
      draws-bump f i x y (bump o e x) (bump p e y) (simp length-set io) (simp length-set ip) d (draws-bump e i x y o p io ip d w)

  draws-run : (x y : ℕ → ℕ) (k j : ℕ) (o p : List ℕ) → length o ≡ cells → length p ≡ cells → ((i : ℕ) → k ≤ i → i < k + j → Draws (x i) (y i)) → Draws (entry o a b) (entry p a b)
      → Draws (entry (run (steps bonds x) k j o) a b) (entry (run (steps bonds y) k j p) a b)
  unfolding run
  draws-run x y k zero o p lo lp h d = d
  draws-run x y k (suc j) o p lo lp h d =
      draws-run x y (suc k) j (with_value bonds (x k) k o) (with_value bonds (y k) k p) (value-length bonds (x k) k o ∙ lo) (value-length bonds (y k) k p ∙ lp)
      (λ i u v. h i (omega arith) (omega arith))
      (draws-value k (x k) (y k) o p lo lp (h k (omega arith) (omega arith)) d)

order-elided : order elided ≡ 1
unfolding order
order-elided = refl

some-order : (k c : ℕ) → k ≡ elided → 0 < settled_order k c
some-order k c e = go (eqb c 1)
  where
    go : (z : Bool) → 0 < pick z 2 (order k)
    go true = omega arith
    go false = omega (arith, ap order e ∙ order-elided)

module _ {atoms bonds : List ℤ} {n m : ℕ} {opened : List ℕ} (row s : List ℕ) (to : ℕ) (w : Opens atoms bonds n m opened) (i : is_row m s ≡ true) (h : matching_of atoms bonds n m s ≡ true) (e : take to s ≡ take to row) where
  same-cell : (k : ℕ) → k < to → get_or s k 0 ≡ get_or row k 0
  same-cell k l = sym (get_or-take to s k 0 l) ∙ ap (λ (t : List ℕ). get_or t k 0) e ∙ get_or-take to row k 0 l

  -- what each bond adds
  draws-order : (k : ℕ) → k < m → Draws (drawn_order bonds (get_or s k 0) k) (part_order bonds opened row to k)
  unfolding part_order
  draws-order k l = go (ltb k to) refl
    where
      later : (z : Bool) → eqb (get_or opened k 0) 1 ≡ z → Draws (drawn_order bonds (get_or s k 0) k) (pick z open_bond (order (kind bonds k)))
      later true q = draws-open (some-order (kind bonds k) (get_or s k 0) (w.only k l (eqb-true (get_or opened k 0) 1 q)))
      later false q = draws-same (ap (λ (z : Bool). pick z 2 (order (kind bonds k))) (ne_eqb (get_or s k 0) 1 (λ g. eqb-false (get_or opened k 0) 1 q (w.all s i h k l g))))

      go : (z : Bool) → ltb k to ≡ z → Draws (drawn_order bonds (get_or s k 0) k) (pick z (drawn_order bonds (get_or row k 0) k) (pick (eqb (get_or opened k 0) 1) open_bond (order (kind bonds k))))
      go true q = draws-same (ap (λ (c : ℕ). drawn_order bonds c k) (same-cell k (ltb-true k to q)))
      go false q = later (eqb (get_or opened k 0) 1) refl

  pub draws : (a b : ℕ) → a < max_same → b < max_same → Draws (entry (closed_matrix bonds s m) a b) (entry (part_matrix bonds opened row to m) a b)
  unfolding closed_matrix part_matrix with_order with_part
  draws a b la lb =
      draws-run bonds a b la lb (λ k. drawn_order bonds (get_or s k 0) k) (part_order bonds opened row to) 0 m (replicate cells 0) (replicate cells 0) (length-replicate {A = ℕ} cells 0) (length-replicate {A = ℕ} cells 0)
      (λ k u v. draws-order k (omega arith))
      (draws-same refl)

  -- a way from or to a matching is one from or to the molecule partly decided
  module _ (l : n ≤ max_same) {q : List ℕ} (t : List ℕ) where
    pub part-way : Way (closed_matrix bonds s m) q n t → Way (part_matrix bonds opened row to m) q n t
    part-way v =
        record {
          below = v.below;
          one = v.one;
          cells = λ a b ia ib d. agree-drawn (entry (closed_matrix bonds s m) a b) (entry (part_matrix bonds opened row to m) a b) (entry q (image t a) (image t b)) (draws a b (omega arith) (omega arith)) (v.cells a b ia ib d);
        }

    pub way-part : Way q (closed_matrix bonds s m) n t → Way q (part_matrix bonds opened row to m) n t
    way-part v =
        record {
          below = v.below;
          one = v.one;
          cells = λ a b ia ib d.
              let c = image t a in
              let f = image t b in
              let o = entry (closed_matrix bonds s m) c f in
              let u = entry (part_matrix bonds opened row to m) c f in
              let z = entry q a b in
              agree-turned z u ∙ agree-drawn o u z (draws c f (omega (arith, v.below a ia)) (omega (arith, v.below b ib))) (agree-turned o z ∙ v.cells a b ia ib d);
        }
