-- Being the same compound: symmetric, reflexive where there is a placement, and a molecule is the same as each of its kekulized forms. Assumes nothing.
use mathlib.Core.Path.{◌≡◌, refl, sym, ap, ◌∙◌, subst}
use mathlib.Core.Bool.{true}
use mathlib.Core.List.{List, [], ◌∷◌}
use Prim.Native.Nat.{ℕ, zero, suc, ◌<◌}
use native.Mathlib.Omega.{arith}
use lib.IntN.{ℤ}
use lib.ListN.{replicate}
use Rattle.loops.specs.Loop.{run, up_to}
use Rattle.loops.proofs.Loops.{up_to-at, and_left, and_right, repeated-at}
use Rattle.table.specs.Valid.{Valid}
use Rattle.table.specs.Edits.{doubled, doubled_by, doubled_bonds}
use Rattle.table.proofs.Valid.{Enough}
use Rattle.matching.specs.Enumeration.{Row, is_row}
use Rattle.matching.proofs.Listing.{passes_at}
use Rattle.kekule.proofs.Kekulized.{kekulized-matchings}
use Rattle.same_model.specs.Same.{Molecule, is_placement, settled, same_cells, order_between, joins, image, carries}
use Rattle.same_model.specs.Redrawing.{Renumbering, Placement, Same}
use Rattle.same_model.proofs.Onto.{made, inverse, inverse-renumbers, image-back}
use Rattle.same_model.proofs.Cells.{Alike, alike, cells-alike, alike_self, alike-sym, alike-settled}
use Rattle.same_model.proofs.Sameness.{Carried, carried-facts, facts-carried}

-- each atom keeps its number
abbrev pub identity : ℕ → List ℕ
identity n = up_to (λ (a : ℕ). a) 0 n

pub identity-renumbers : (n : ℕ) → Renumbering n (identity n)
identity-renumbers n = made n (λ (a : ℕ). a) (λ a l. l) (λ a b l k e. e)

pub identity-at : (n a : ℕ) → a < n → image (identity n) a ≡ a
identity-at n a l = up_to-at (λ (a : ℕ). a) n a 0 l

-- a molecule carried onto one with equal cells and orders, each atom by its number
module _ (x y : Molecule) (cells : (a : ℕ) → Alike x y a a) (orders : (a b : ℕ) → order_between x a b ≡ order_between y a b) where
  pub identity-carries : carries x y (identity x.n) ≡ true
  identity-carries =
      facts-carried x y (identity x.n)
      (record {
        cells = λ a l. rw (identity-at x.n a l) (cells-alike x y a a (cells a));
        orders = λ a b l k. rw (identity-at x.n a l, identity-at x.n b k) (orders a b);
      })

-- a molecule with a placement is the same as itself
pub same_self : (x : Molecule) (r : Row) → Placement x r → Same x x
same_self x r p =
    record {
      row1 = r;
      row2 = r;
      renumbering = identity x.n;
      counts = refl;
      placement1 = p;
      placement2 = p;
      renumbers = identity-renumbers x.n;
      carried = identity-carries (settled x r) (settled x r) (alike_self (settled x r)) (λ a b. refl);
    }

-- carried back
module _ {x y : Molecule} {t : List ℕ} (e : x.n ≡ y.n) (r : Renumbering x.n t) (c : Carried x y t) where
  pub carried-back : Carried y x (inverse x.n t)
  carried-back =
      record {
        cells = λ a l.
            let i : a < x.n = omega arith in
            let b = image (inverse x.n t) a in
            let h : b < x.n = (inverse-renumbers r).below a i in
            let k : same_cells x y b a ≡ true = rw (image-back r a i) at (c.cells b h) in
            cells-alike y x a b (alike-sym (alike x y b a k));
        orders = λ a b l k.
            let i : a < x.n = omega arith in
            let j : b < x.n = omega arith in
            sym (c.orders (image (inverse x.n t) a) (image (inverse x.n t) b) ((inverse-renumbers r).below a i) ((inverse-renumbers r).below b j) ∙ rw (image-back r a i, image-back r b j));
      }

-- the relation is symmetric: rows exchanged, the renumbering turned back
pub same-sym : {x y : Molecule} → Same x y → Same y x
same-sym {x} {y} w =
    record {
      row1 = w.row2;
      row2 = w.row1;
      renumbering = inverse x.n w.renumbering;
      counts = sym w.counts;
      placement1 = w.placement2;
      placement2 = w.placement1;
      renumbers = subst (λ (k : ℕ). Renumbering k (inverse x.n w.renumbering)) w.counts (inverse-renumbers w.renumbers);
      carried = facts-carried (settled y w.row2) (settled x w.row1) (inverse x.n w.renumbering)
          (carried-back {x = settled x w.row1} {y = settled y w.row2} w.counts w.renumbers (carried-facts (settled x w.row1) (settled y w.row2) w.renumbering w.carried));
    }

-- a row of zeros doubles nothing
zeros-run : (m k j : ℕ) (t : List ℤ) → run (doubled_by (replicate m 0)) k j t ≡ t
unfolding run doubled
zeros-run m k zero t = refl
zeros-run m k (suc j) t = rw (repeated-at {A = ℕ} m k 0) (zeros-run m (suc k) j t)

pub zeros-double : (m : ℕ) (t : List ℤ) → doubled_bonds (replicate m 0) m t ≡ t
unfolding doubled_bonds
zeros-double m t = zeros-run m 0 m t

-- a molecule is the same as each of its kekulized forms
module _ (x : Molecule) (r : Row) (p : Placement x r) (v : Valid x.atoms x.bonds x.n x.m) (e : Enough x.atoms x.bonds) where
  settled-placement : Placement (settled x r) (replicate x.m 0)
  settled-placement =
      let k = passes_at x.m (replicate x.m 0 ∷ []) (is_placement (settled x r)) (kekulized-matchings v e r) 0 (omega arith) in
      record {
        row = and_left (is_row x.m (replicate x.m 0)) (is_placement (settled x r) (replicate x.m 0)) k;
        placed = and_right (is_row x.m (replicate x.m 0)) (is_placement (settled x r) (replicate x.m 0)) k;
      }

  orders-stay : (a b : ℕ) → order_between (settled x r) a b ≡ order_between (settled (settled x r) (replicate x.m 0)) a b
  unfolding order_between joins
  orders-stay a b =
      ap (λ (t : List ℤ). order_between (record { atoms = (settled (settled x r) (replicate x.m 0)).atoms; bonds = t; n = x.n; m = x.m }) a b) (sym (zeros-double x.m (settled x r).bonds))

  pub same-kekulized : Same x (settled x r)
  same-kekulized =
      record {
        row1 = r;
        row2 = replicate x.m 0;
        renumbering = identity x.n;
        counts = refl;
        placement1 = p;
        placement2 = settled-placement;
        renumbers = identity-renumbers x.n;
        carried = identity-carries (settled x r) (settled (settled x r) (replicate x.m 0)) (alike-settled (settled x r) (replicate x.m 0)) orders-stay;
      }
