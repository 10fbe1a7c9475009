-- A redrawing carries plain hydrogens onto plain hydrogens, and their neighbours onto their neighbours. Assumes nothing.
use mathlib.Core.Path.{◌≡◌, refl, sym, ap, ◌∙◌}
use mathlib.Core.Bool.{Bool, true, false, ◌&&◌, ◌||◌}
use Prim.Native.Nat.{ℕ, ◌<◌}
use native.Mathlib.Omega.{arith}
use lib.Dec.{eqb}
use lib.IntN.{pos}
use borrow.Author.Tests.{eqb-true, eq-eqb}
use Rattle.loops.specs.Loop.{pick, how_many}
use Rattle.loops.proofs.Loops.{and_left, and_right}
use Rattle.table.specs.Limits.{ELEMENT, SELECTED}
use Rattle.table.specs.Cells.{number, in_range, atom_cell, element, selected}
use Rattle.table.specs.Valid.{selectable, selected_ok, Valid}
use Rattle.table.proofs.Valid.{atom-row, range-pos}
use Rattle.matching.proofs.Graph.{same_bool}
use Rattle.valence.specs.Valence.{delocalized}
use Rattle.table_graph.specs.Graph.{bond_sum, delocalized_at, flag}
use Rattle.same_model.specs.Same.{Molecule, image}
use Rattle.same_model.specs.Redrawing.{Redrawing, settled_sum, joined}
use Rattle.same_model.proofs.Totals.{total, total-same, total-permuted}
use Rattle.same_model.proofs.Cells.{Alike, alike}
use Rattle.folding.specs.Folding.{is_cell, neighbour, plain_hydrogen, Complete}
use Rattle.folding.proofs.Ranks.{rank-total}
use Rattle.folding.proofs.Neighbours.{sum-degree, neighbour-below, neighbour-joined, lone-joined}
use Rattle.folding.proofs.Plain.{Plain, plain-facts, plain-test}
use Rattle.folding.proofs.Ranked.{hydrogen_of}

-- ---- a hydrogen is not selected, so its settled sum is its bond sum
module _ (x : Molecule) (v : Valid x.atoms x.bonds x.n x.m) (a : ℕ) (l : a < x.n) (e : atom_cell x.atoms a ELEMENT ≡ pos 1) where
  pub unselected : atom_cell x.atoms a SELECTED ≡ pos 0
  unfolding selected_ok number
  unselected =
      let s = selected x.atoms a in
      let r = in_range (atom_cell x.atoms a SELECTED) (pos 0) (pos 1) in
      let f = (atom-row v a l).selected in
      let g : (eqb s 0 || selectable (element x.atoms a)) ≡ true = and_right r (eqb s 0 || selectable (element x.atoms a)) f in
      let h : (eqb s 0 || false) ≡ true = rw e at g in
      range-pos (atom_cell x.atoms a SELECTED) 1 (and_left r (eqb s 0 || selectable (element x.atoms a)) f) ∙ ap pos (eqb-true s 0 (or-false (eqb s 0) h))
    where
      or-false : (z : Bool) → (z || false) ≡ true → z ≡ true
      or-false true h = refl
      or-false false h = h

  pub plain-settled : settled_sum x a ≡ bond_sum x.bonds x.m a
  unfolding delocalized number
  plain-settled =
      let d : delocalized_at x.atoms x.bonds x.m a ≡ false = rw unselected in
      let f = ap flag d in
      omega arith

module _ {x y : Molecule} (w : Redrawing x y) (c : Complete x) (d : Complete y) where
  abbrev pub t : ℕ → ℕ
  t a = image w.renumbering a

  pub carried-below : (a : ℕ) → a < x.n → t a < y.n
  carried-below a l = let q = w.renumbers.below a l in let e : x.n ≡ y.n = w.counts in omega arith

  pub carried-cells : (a : ℕ) → a < x.n → Alike x y a (t a)
  carried-cells a l = alike x y a (t a) (w.cells a l)

  pub carried-eqb : (a b : ℕ) → a < x.n → b < x.n → eqb (t a) (t b) ≡ eqb a b
  carried-eqb a b l k =
      same_bool (eqb (t a) (t b)) (eqb a b)
      (λ q. eq-eqb a b (w.renumbers.one a b l k (eqb-true (t a) (t b) q)))
      (λ q. eq-eqb (t a) (t b) (ap t (eqb-true a b q)))

  pub carried-heavy : (p : ℕ) → p < x.n → is_cell x.atoms p ELEMENT 1 ≡ is_cell y.atoms (t p) ELEMENT 1
  carried-heavy p l = rw (carried-cells p l).element

  abbrev nx : ℕ → ℕ
  nx a = neighbour x.bonds x.m a

  abbrev ny : ℕ → ℕ
  ny b = neighbour y.bonds y.m b

  -- the neighbour of an atom with one bond, of order 1
  module _ (a : ℕ) (l : a < x.n) (p : bond_sum x.bonds x.m a ≡ 1) (q : bond_sum y.bonds y.m (t a) ≡ 1) where
    lone-carried : ny (t a) ≡ t (nx a)
    lone-carried =
        let f = sum-degree x c.valid a p in
        let g = sum-degree y d.valid (t a) q in
        let b = neighbour-below x c.valid a f in
        let j : joined y (t a) (t (nx a)) ≡ true = sym (w.bonds a (nx a) l b) ∙ neighbour-joined x c.valid a f in
        eqb-true (ny (t a)) (t (nx a)) (sym (lone-joined y d.valid (t a) g q (t (nx a)) (carried-below (nx a) b)) ∙ j)

  sums : (a : ℕ) → a < x.n → atom_cell x.atoms a ELEMENT ≡ pos 1 → bond_sum x.bonds x.m a ≡ bond_sum y.bonds y.m (t a)
  sums a l e =
      sym (plain-settled x c.valid a l e) ∙ w.sums a l ∙ plain-settled y d.valid (t a) (carried-below a l) (sym (carried-cells a l).element ∙ e)

  -- ---- forth and back
  forth : (a : ℕ) → a < x.n → Plain x.atoms x.bonds x.m a → Plain y.atoms y.bonds y.m (t a)
  forth a l p =
      let k = carried-cells a l in
      let e : atom_cell y.atoms (t a) ELEMENT ≡ pos 1 = sym k.element ∙ p.element in
      let s : bond_sum y.bonds y.m (t a) ≡ 1 = sym (sums a l p.element) ∙ p.sum in
      record {
        element = e;
        isotope = sym k.isotope ∙ p.isotope;
        charge = sym k.charge ∙ p.charge;
        hydrogens = sym k.hydrogens ∙ p.hydrogens;
        selected = unselected y d.valid (t a) (carried-below a l) e;
        degree = sum-degree y d.valid (t a) s;
        sum = s;
        heavy = rw (lone-carried a l p.sum s) (sym (carried-heavy (nx a) (neighbour-below x c.valid a p.degree)) ∙ p.heavy);
      }

  back : (a : ℕ) → a < x.n → Plain y.atoms y.bonds y.m (t a) → Plain x.atoms x.bonds x.m a
  back a l p =
      let k = carried-cells a l in
      let e : atom_cell x.atoms a ELEMENT ≡ pos 1 = k.element ∙ p.element in
      let s : bond_sum x.bonds x.m a ≡ 1 = sums a l e ∙ p.sum in
      let g = sum-degree x c.valid a s in
      record {
        element = e;
        isotope = k.isotope ∙ p.isotope;
        charge = k.charge ∙ p.charge;
        hydrogens = k.hydrogens ∙ p.hydrogens;
        selected = unselected x c.valid a l e;
        degree = g;
        sum = s;
        heavy = carried-heavy (nx a) (neighbour-below x c.valid a g) ∙ ap (λ (b : ℕ). is_cell y.atoms b ELEMENT 1) (sym (lone-carried a l s p.sum)) ∙ p.heavy;
      }

  pub plain_carried : (a : ℕ) → a < x.n → plain_hydrogen x.atoms x.bonds x.m a ≡ plain_hydrogen y.atoms y.bonds y.m (t a)
  plain_carried a l =
      same_bool (plain_hydrogen x.atoms x.bonds x.m a) (plain_hydrogen y.atoms y.bonds y.m (t a))
      (λ h. plain-test y.atoms y.bonds y.m (t a) (forth a l (plain-facts x.atoms x.bonds x.m a h)))
      (λ h. plain-test x.atoms x.bonds x.m a (back a l (plain-facts y.atoms y.bonds y.m (t a) h)))

  pub neighbour-carried : (a : ℕ) → a < x.n → plain_hydrogen x.atoms x.bonds x.m a ≡ true → ny (t a) ≡ t (nx a)
  neighbour-carried a l h = let p = plain-facts x.atoms x.bonds x.m a h in lone-carried a l p.sum (forth a l p).sum

  -- an atom has as many plain hydrogens as the one that it is carried onto
  pub hydrogen-carried : (p j : ℕ) → p < x.n → j < x.n → hydrogen_of x p j ≡ hydrogen_of y (t p) (t j)
  hydrogen-carried p j k l = go (plain_hydrogen x.atoms x.bonds x.m j) refl
    where
      go : (z : Bool) → plain_hydrogen x.atoms x.bonds x.m j ≡ z → (z && eqb (nx j) p) ≡ (plain_hydrogen y.atoms y.bonds y.m (t j) && eqb (ny (t j)) (t p))
      go true h =
          let b = neighbour-below x c.valid j (plain-facts x.atoms x.bonds x.m j h).degree in
          rw (sym (plain_carried j l) ∙ h, neighbour-carried j l h) (sym (carried-eqb (nx j) p b k))
      go false h = rw (sym (plain_carried j l) ∙ h)

  pub hydrogens-carried : (p : ℕ) → p < x.n → how_many (hydrogen_of x p) 0 x.n ≡ how_many (hydrogen_of y (t p)) 0 y.n
  hydrogens-carried p k =
      rank-total (hydrogen_of x p) x.n
      ∙ total-same (λ j. pick (hydrogen_of x p j) 1 0) (λ j. pick (hydrogen_of y (t p) (t j)) 1 0) x.n (λ j l. ap (λ (z : Bool). pick z 1 0) (hydrogen-carried p j k l))
      ∙ total-permuted x.n t w.renumbers.below w.renumbers.one (λ j. pick (hydrogen_of y (t p) j) 1 0)
      ∙ ap (total (λ j. pick (hydrogen_of y (t p) j) 1 0)) w.counts
      ∙ sym (rank-total (hydrogen_of y (t p)) y.n)
