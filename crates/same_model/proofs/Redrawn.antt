-- Molecules that are the same compound are redrawings of one another, and being a redrawing is an equivalence. Assumes nothing.
use mathlib.Core.Path.{◌≡◌, refl, sym, ap, ◌∙◌, subst}
use mathlib.Core.Bool.{true, not}
use mathlib.Core.List.{List}
use Prim.Native.Nat.{ℕ, ◌<◌}
use native.Mathlib.Omega.{arith}
use lib.Dec.{eqb}
use Rattle.loops.specs.Loop.{up_to}
use Rattle.loops.proofs.Loops.{up_to-at}
use Rattle.table.specs.Valid.{Valid}
use Rattle.table.proofs.Valid.{Enough}
use Rattle.table_graph.specs.Graph.{bond_sum}
use Rattle.kekule.proofs.Kekulized.{kekulized-valid}
use Rattle.same_model.specs.Same.{Molecule, settled, same_cells, order_between, image}
use Rattle.same_model.specs.Redrawing.{Renumbering, Same, settled_sum, Redrawing}
use Rattle.same_model.proofs.Onto.{made, inverse, inverse-renumbers, image-back}
use Rattle.same_model.proofs.Cells.{alike, cells-alike, alike_self, alike-sym, alike-trans, alike-settled}
use Rattle.same_model.proofs.Sameness.{Carried, carried-facts}
use Rattle.same_model.proofs.Relation.{identity, identity-renumbers, identity-at}
use Rattle.same_model.proofs.Totals.{total, total-same, total-permuted}
use Rattle.same_model.proofs.Orders.{sum-between}
use Rattle.same_model.proofs.Settling.{settled-sum, joined-settled}

pub redrawing-self : (x : Molecule) → Redrawing x x
redrawing-self x =
    record {
      renumbering = identity x.n;
      counts = refl;
      renumbers = identity-renumbers x.n;
      cells = λ a l. rw (identity-at x.n a l) (cells-alike x x a a (alike_self x a));
      bonds = λ a b l k. rw (identity-at x.n a l, identity-at x.n b k);
      sums = λ a l. rw (identity-at x.n a l);
    }

pub redrawing-sym : {x y : Molecule} → Redrawing x y → Redrawing y x
redrawing-sym {x} {y} w =
    let e : x.n ≡ y.n = w.counts in
    let t = w.renumbering in
    let r : Renumbering x.n t = w.renumbers in
    let u = inverse x.n t in
    record {
      renumbering = u;
      counts = sym e;
      renumbers = subst (λ (k : ℕ). Renumbering k u) e (inverse-renumbers r);
      cells = λ a l.
          let i : a < x.n = omega arith in
          let k : same_cells x y (image u a) a ≡ true = rw (image-back r a i) at (w.cells (image u a) ((inverse-renumbers r).below a i)) in
          cells-alike y x a (image u a) (alike-sym (alike x y (image u a) a k));
      bonds = λ a b l k.
          let i : a < x.n = omega arith in
          let j : b < x.n = omega arith in
          sym (w.bonds (image u a) (image u b) ((inverse-renumbers r).below a i) ((inverse-renumbers r).below b j) ∙ rw (image-back r a i, image-back r b j));
      sums = λ a l.
          let i : a < x.n = omega arith in
          sym (w.sums (image u a) ((inverse-renumbers r).below a i) ∙ ap (settled_sum y) (image-back r a i));
    }

pub redrawing-trans : {x y z : Molecule} → Redrawing x y → Redrawing y z → Redrawing x z
redrawing-trans {x} {y} {z} v w =
    let e : x.n ≡ y.n = v.counts in
    let f : y.n ≡ z.n = w.counts in
    let t = v.renumbering in
    let u = w.renumbering in
    let g : ℕ → ℕ = λ a. image u (image t a) in
    let inner : (a : ℕ) → a < x.n → image t a < y.n = λ a l. let q = v.renumbers.below a l in omega arith in
    let at : (a : ℕ) → a < x.n → image (up_to g 0 x.n) a ≡ g a = λ a l. up_to-at g x.n a 0 l in
    record {
      renumbering = up_to g 0 x.n;
      counts = e ∙ f;
      renumbers = made x.n g (λ a l. let q = w.renumbers.below (image t a) (inner a l) in omega arith) (λ a b l k q. v.renumbers.one a b l k (w.renumbers.one (image t a) (image t b) (inner a l) (inner b k) q));
      cells = λ a l. rw (at a l) (cells-alike x z a (g a) (alike-trans (alike x y a (image t a) (v.cells a l)) (alike y z (image t a) (g a) (w.cells (image t a) (inner a l)))));
      bonds = λ a b l k. rw (at a l, at b k) (v.bonds a b l k ∙ w.bonds (image t a) (image t b) (inner a l) (inner b k));
      sums = λ a l. rw (at a l) (v.sums a l ∙ w.sums (image t a) (inner a l));
    }

-- the same compound: a redrawing, by the same renumbering
module _ {x y : Molecule} (w : Same x y) (v1 : Valid x.atoms x.bonds x.n x.m) (e1 : Enough x.atoms x.bonds) (v2 : Valid y.atoms y.bonds y.n y.m) (e2 : Enough y.atoms y.bonds) where
  abbrev x' : Molecule
  x' = settled x w.row1

  abbrev y' : Molecule
  y' = settled y w.row2

  abbrev t : List ℕ
  t = w.renumbering

  carried : Carried x' y' t
  carried = carried-facts x' y' t w.carried

  below : (a : ℕ) → a < x.n → image t a < y.n
  below a l = let q = w.renumbers.below a l in let e : x.n ≡ y.n = w.counts in omega arith

  same-sums : (a : ℕ) → a < x.n → bond_sum x'.bonds x.m a ≡ bond_sum y'.bonds y.m (image t a)
  same-sums a l =
      sum-between x' (kekulized-valid v1 e1 w.row1) a
      ∙ total-same (order_between x' a) (λ b. order_between y' (image t a) (image t b)) x.n (λ b k. carried.orders a b l k)
      ∙ total-permuted x.n (image t) w.renumbers.below w.renumbers.one (order_between y' (image t a))
      ∙ ap (total (order_between y' (image t a))) w.counts
      ∙ sym (sum-between y' (kekulized-valid v2 e2 w.row2) (image t a))

  pub same-redrawing : Redrawing x y
  same-redrawing =
      record {
        renumbering = t;
        counts = w.counts;
        renumbers = w.renumbers;
        cells = λ a l.
            cells-alike x y a (image t a)
            (alike-trans (alike-settled x w.row1 a) (alike-trans (alike x' y' a (image t a) (carried.cells a l)) (alike-sym (alike-settled y w.row2 (image t a)))));
        bonds = λ a b l k.
            sym (joined-settled x w.row1 w.placement1 v1 e1 a b)
            ∙ ap (λ (o : ℕ). not (eqb o 0)) (carried.orders a b l k)
            ∙ joined-settled y w.row2 w.placement2 v2 e2 (image t a) (image t b);
        sums = λ a l.
            sym (settled-sum x w.row1 w.placement1 v1 e1 a l) ∙ same-sums a l ∙ settled-sum y w.row2 w.placement2 v2 e2 (image t a) (below a l);
      }

  pub redrawn-by : same-redrawing.renumbering ≡ t
  unfolding same-redrawing
  redrawn-by = refl
