-- "Yes" is said exactly if some rows and some renumbering fit, and those handed out do. Assumes nothing.
use mathlib.Core.Path.{◌≡◌, refl}
use mathlib.Core.Bool.{Bool, true}
use mathlib.Core.List.{List, []}
use Prim.Native.Nat.{ℕ, ◌<◌}
use lib.Dec.{eqb}
use borrow.Author.Tests.{eqb-true, eq-eqb}
use Rattle.loops.specs.Loop.{each}
use Rattle.loops.proofs.Loops.{and_left, and_right, each_at, each_all}
use Rattle.matching.specs.Enumeration.{Row, is_row}
use Rattle.matching.specs.Model.{some?, head_or}
use Rattle.matching.proofs.Graph.{and_intro}
use Rattle.matching.proofs.Listing.{row_at, passes_at, place_of}
use Rattle.same_model.specs.Same.{Molecule, is_placement, placements, same_cells, order_between, image, carries_atoms, carries_bonds, carries, fits, fitting, partners, partnered, same?, first_row, second_row, first_renumbering}
use Rattle.same_model.specs.Redrawing.{Renumbering, Placement, Same}
use Rattle.same_model.proofs.Lists.{In, All, in-at, at_all, in-passing, all-passing, in_some, all_head}
use Rattle.same_model.proofs.Words.{renumberings-all, renumbering-in}

-- one molecule under the renumbering is the other, as facts
pub record Carried (x y : Molecule) (t : List ℕ) : Type 0 where
  pub cells : (a : ℕ) → a < x.n → same_cells x y a (image t a) ≡ true
  pub orders : (a b : ℕ) → a < x.n → b < x.n → order_between x a b ≡ order_between y (image t a) (image t b)

module _ (x y : Molecule) (t : List ℕ) where
  abbrev atom_test : ℕ → Bool
  atom_test a = same_cells x y a (image t a)

  abbrev order_test : ℕ → ℕ → Bool
  order_test a b = eqb (order_between x a b) (order_between y (image t a) (image t b))

  pub carried-facts : carries x y t ≡ true → Carried x y t
  unfolding carries_atoms carries_bonds
  carried-facts h =
      let f = and_left (carries_atoms x y t) (carries_bonds x y t) h in
      let g = and_right (carries_atoms x y t) (carries_bonds x y t) h in
      record {
        cells = λ a l. each_at atom_test x.n a f l;
        orders = λ a b l k. eqb-true (order_between x a b) (order_between y (image t a) (image t b)) (each_at (order_test a) x.n b (each_at (λ a. each (order_test a) 0 x.n) x.n a g l) k);
      }

  pub facts-carried : Carried x y t → carries x y t ≡ true
  unfolding carries_atoms carries_bonds
  facts-carried c =
      and_intro (carries_atoms x y t) (carries_bonds x y t)
      (each_all atom_test x.n c.cells)
      (each_all (λ a. each (order_test a) 0 x.n) x.n (λ a l. each_all (order_test a) x.n (λ b k. eq-eqb (order_between x a b) (order_between y (image t a) (image t b)) (c.orders a b l k))))

-- the list of placements
pub placements-all : (x : Molecule) → All (Placement x) (placements x)
placements-all x =
    at_all (Placement x) [] (placements x)
    (λ i l.
    let r = row_at (placements x) i in
    let k = passes_at x.m (placements x) (is_placement x) refl i l in
    record { row = and_left (is_row x.m r) (is_placement x r) k; placed = and_right (is_row x.m r) (is_placement x r) k })

pub placement-in : (x : Molecule) (r : Row) → Placement x r → In r (placements x)
placement-in x r p =
    let w = place_of (is_placement x) x.m r (and_intro (is_row x.m r) (is_placement x r) p.row p.placed) in
    rw w.2 at (in-at [] (placements x) w.0 w.1)

module _ (x y : Molecule) where
  pub fitting-head : (r s : Row) → some? (fitting x y r s) ≡ true → Renumbering x.n (head_or [] (fitting x y r s)) × (fits x y r s (head_or [] (fitting x y r s)) ≡ true)
  unfolding fitting
  fitting-head r s h = all_head [] (all-passing (fits x y r s) (renumberings-all x.n)) h

  pub partners-head : (r : Row) → some? (partners x y r) ≡ true → Placement y (head_or [] (partners x y r)) × (some? (fitting x y r (head_or [] (partners x y r))) ≡ true)
  unfolding partners
  partners-head r h = all_head [] (all-passing (λ (s : Row). some? (fitting x y r s)) (placements-all y)) h

  pub partnered-head : some? (partnered x y) ≡ true → Placement x (head_or [] (partnered x y)) × (some? (partners x y (head_or [] (partnered x y))) ≡ true)
  unfolding partnered
  partnered-head h = all_head [] (all-passing (λ (r : Row). some? (partners x y r)) (placements-all x)) h

  -- what is handed out fits
  pub same-fact : same? x y ≡ true → Same x y
  unfolding same? first_row second_row first_renumbering
  same-fact h =
      let p = partnered-head (and_right (eqb x.n y.n) (some? (partnered x y)) h) in
      let q = partners-head (first_row x y) p.1 in
      let w = fitting-head (first_row x y) (second_row x y) q.1 in
      record {
        row1 = first_row x y;
        row2 = second_row x y;
        renumbering = first_renumbering x y;
        counts = eqb-true x.n y.n (and_left (eqb x.n y.n) (some? (partnered x y)) h);
        placement1 = p.0;
        placement2 = q.0;
        renumbers = w.0;
        carried = w.1;
      }

  -- where some fit, "yes" is said
  pub fact-same : Same x y → same? x y ≡ true
  unfolding same? partnered partners fitting
  fact-same w =
      let f : some? (fitting x y w.row1 w.row2) ≡ true = in_some (in-passing (fits x y w.row1 w.row2) (renumbering-in x.n w.renumbering w.renumbers) w.carried) in
      let p : some? (partners x y w.row1) ≡ true = in_some (in-passing (λ (s : Row). some? (fitting x y w.row1 s)) (placement-in y w.row2 w.placement2) f) in
      and_intro (eqb x.n y.n) (some? (partnered x y)) (eq-eqb x.n y.n w.counts)
      (in_some (in-passing (λ (r : Row). some? (partners x y r)) (placement-in x w.row1 w.placement1) p))
