-- A redrawing that carries those that go onto those that go: what stays is a redrawing. Assumes nothing.
use mathlib.Core.Path.{◌≡◌, refl, sym, ap, ◌∙◌}
use mathlib.Core.Bool.{Bool, true, false, ◌&&◌, not}
use Prim.Native.Nat.{ℕ, ◌+◌, ◌<◌}
use native.Mathlib.Omega.{arith}
use lib.Dec.{eqb}
use lib.IntN.{pos}
use Rattle.loops.specs.Loop.{pick, up_to}
use Rattle.loops.proofs.Loops.{up_to-at}
use Rattle.table.specs.Limits.{atom_cells, ELEMENT, ISOTOPE, HYDROGENS, CHARGE, EXTENSION}
use Rattle.table.specs.Cells.{number, atom_cell, hydrogens}
use Rattle.same_model.specs.Same.{Molecule, image}
use Rattle.same_model.specs.Redrawing.{Renumbering, Redrawing, settled_sum, joined}
use Rattle.same_model.proofs.Onto.{made}
use Rattle.same_model.proofs.Totals.{total, total-same, total-permuted}
use Rattle.same_model.proofs.Cells.{Alike, cells-alike}
use Rattle.folding.specs.Folding.{neighbour, goes, stays, new_atom, merged, Complete}
use Rattle.folding.proofs.Ranks.{rank-total, rank-one}
use Rattle.folding.proofs.Neighbours.{neighbour-below}
use Rattle.folding.proofs.Plain.{plain-test, goes-plain, gained, to-hydrogens}
use Rattle.folding.proofs.Merged.{old, merged-count, old-at, new-below, old-new, merged-cell, merged-field, merged-order}
use Rattle.folding.proofs.Sums.{merged-settled}
use Rattle.redrawing.proofs.Carried.{carried-below, carried-cells, carried-eqb, neighbour-carried}

module _ {x y : Molecule} (w : Redrawing x y) (c : Complete x) (d : Complete y) (gone : (a : ℕ) → a < x.n → goes x a ≡ goes y (image w.renumbering a)) where
  abbrev t : ℕ → ℕ
  t a = image w.renumbering a

  -- what an atom gains
  gain : (a j : ℕ) → a < x.n → j < x.n → gained x a j ≡ gained y (t a) (t j)
  gain a j l k = go (goes x j) refl
    where
      go : (z : Bool) → goes x j ≡ z → pick (z && eqb (neighbour x.bonds x.m j) a) 1 0 ≡ gained y (t a) (t j)
      go true h =
          let p = goes-plain x j h in
          let b = neighbour-below x c.valid j p.degree in
          rw (sym (gone j k) ∙ h, neighbour-carried w c d j k (plain-test x.atoms x.bonds x.m j p), carried-eqb w c d (neighbour x.bonds x.m j) a b l)
      go false h = rw (sym (gone j k) ∙ h)

  gains : (a : ℕ) → a < x.n → total (gained x a) x.n ≡ total (gained y (t a)) y.n
  gains a l =
      total-same (gained x a) (λ j. gained y (t a) (t j)) x.n (λ j k. gain a j l k)
      ∙ total-permuted x.n t w.renumbers.below w.renumbers.one (gained y (t a))
      ∙ ap (total (gained y (t a))) w.counts

  -- as many stay
  counts : (merged x).n ≡ (merged y).n
  counts =
      merged-count x
      ∙ rank-total (stays x) x.n
      ∙ total-same (λ j. pick (stays x j) 1 0) (λ j. pick (stays y (t j)) 1 0) x.n (λ j l. ap (λ (z : Bool). pick (not z) 1 0) (gone j l))
      ∙ total-permuted x.n t w.renumbers.below w.renumbers.one (λ j. pick (stays y j) 1 0)
      ∙ ap (total (λ j. pick (stays y j) 1 0)) w.counts
      ∙ sym (rank-total (stays y) y.n)
      ∙ sym (merged-count y)

  -- the renumbering of those that stay
  abbrev r : ℕ → ℕ
  r k = new_atom y (t (old x k))

  there : (k : ℕ) → k < (merged x).n → t (old x k) < y.n
  there k l = carried-below w c d (old x k) (old-at x k l).below

  still : (k : ℕ) → k < (merged x).n → stays y (t (old x k)) ≡ true
  still k l = let p = old-at x k l in ap not (sym (gone (old x k) p.below)) ∙ p.passes

  r-below : (k : ℕ) → k < (merged x).n → r k < (merged y).n
  r-below k l = new-below y (t (old x k)) (there k l) (still k l)

  r_back : (k : ℕ) → k < (merged x).n → old y (r k) ≡ t (old x k)
  r_back k l = old-new y (t (old x k)) (there k l) (still k l)

  r-one : (k l : ℕ) → k < (merged x).n → l < (merged x).n → r k ≡ r l → k ≡ l
  r-one k l p q e =
      let u = old-at x k p in
      let s = old-at x l q in
      let f : t (old x k) ≡ t (old x l) = rank-one (stays y) (t (old x k)) (t (old x l)) (still k p) (still l q) e in
      let g : old x k ≡ old x l = w.renumbers.one (old x k) (old x l) u.below s.below f in
      sym u.ranked ∙ ap (new_atom x) g ∙ s.ranked

  r-made : Renumbering (merged x).n (up_to r 0 (merged x).n)
  r-made = made (merged x).n r (λ k l. let p = r-below k l in let e = counts in omega arith) r-one

  at : (k : ℕ) → k < (merged x).n → image (up_to r 0 (merged x).n) k ≡ r k
  at k l = up_to-at r (merged x).n k 0 l

  field : (k f : ℕ) → k < (merged x).n → f < atom_cells → (f ≡ HYDROGENS → ⊥) → atom_cell x.atoms (old x k) f ≡ atom_cell y.atoms (t (old x k)) f → atom_cell (merged x).atoms k f ≡ atom_cell (merged y).atoms (r k) f
  field k f l h n e =
      merged-field x c k f l h n
      ∙ e
      ∙ ap (λ (a : ℕ). atom_cell y.atoms a f) (sym (r_back k l))
      ∙ sym (merged-field y d (r k) f (r-below k l) h n)

  same_start : (k : ℕ) → k < (merged x).n → hydrogens x.atoms (old x k) ≡ hydrogens y.atoms (t (old x k))
  same_start k l = ap number (carried-cells w c d (old x k) (old-at x k l).below).hydrogens

  hydrogens-same : (k : ℕ) → k < (merged x).n → atom_cell (merged x).atoms k HYDROGENS ≡ atom_cell (merged y).atoms (r k) HYDROGENS
  hydrogens-same k l =
      let a = old x k in
      let b = (old-at x k l).below in
      let s = same_start k l in
      let g = gains a b in
      let q : hydrogens x.atoms a + total (gained x a) x.n ≡ hydrogens y.atoms (t a) + total (gained y (t a)) y.n = omega arith in
      merged-cell x c k HYDROGENS l (omega arith)
      ∙ to-hydrogens x c x.n a b
      ∙ ap pos q
      ∙ sym (to-hydrogens y d y.n (t a) (there k l))
      ∙ sym (merged-cell y d (r k) HYDROGENS (r-below k l) (omega arith) ∙ rw (r_back k l))

  same-cells : (k : ℕ) → k < (merged x).n → Alike (merged x) (merged y) k (r k)
  same-cells k l =
      let f = carried-cells w c d (old x k) (old-at x k l).below in
      record {
        element = field k ELEMENT l (omega arith) (λ e. omega arith) f.element;
        isotope = field k ISOTOPE l (omega arith) (λ e. omega arith) f.isotope;
        hydrogens = hydrogens-same k l;
        charge = field k CHARGE l (omega arith) (λ e. omega arith) f.charge;
        extension = field k EXTENSION l (omega arith) (λ e. omega arith) f.extension;
      }

  same-joined : (k l : ℕ) → k < (merged x).n → l < (merged x).n → joined (merged x) k l ≡ joined (merged y) (r k) (r l)
  same-joined k l p q =
      ap (λ (o : ℕ). not (eqb o 0)) (merged-order x c k l p q)
      ∙ w.bonds (old x k) (old x l) (old-at x k p).below (old-at x l q).below
      ∙ sym (ap (λ (o : ℕ). not (eqb o 0)) (merged-order y d (r k) (r l) (r-below k p) (r-below l q)) ∙ rw (r_back k p, r_back l q))

  same_sum : (k : ℕ) → k < (merged x).n → settled_sum (merged x) k ≡ settled_sum (merged y) (r k)
  same_sum k l =
      let p = merged-settled x c k l in
      let q : settled_sum (merged y) (r k) + hydrogens (merged y).atoms (r k) ≡ settled_sum y (t (old x k)) + hydrogens y.atoms (t (old x k)) = rw (r_back k l) at (merged-settled y d (r k) (r-below k l)) in
      let s = w.sums (old x k) (old-at x k l).below in
      let h : hydrogens (merged x).atoms k ≡ hydrogens (merged y).atoms (r k) = ap number (hydrogens-same k l) in
      let g = same_start k l in
      omega arith

  pub merged-redrawing : Redrawing (merged x) (merged y)
  merged-redrawing =
      record {
        renumbering = up_to r 0 (merged x).n;
        counts = counts;
        renumbers = r-made;
        cells = λ k l. rw (at k l) (cells-alike (merged x) (merged y) k (r k) (same-cells k l));
        bonds = λ k l p q. rw (at k p, at l q) (same-joined k l p q);
        sums = λ k l. rw (at k l) (same_sum k l);
      }
