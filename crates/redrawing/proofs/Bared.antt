-- Redrawings are redrawings without their extensions and marks. Assumes nothing.
use mathlib.Core.Path.{◌≡◌, sym, ◌∙◌}
use Prim.Native.Nat.{ℕ, ◌<◌}
use native.Mathlib.Omega.{arith}
use Rattle.table.specs.Limits.{atom_cells, ELEMENT, ISOTOPE, HYDROGENS, CHARGE, EXTENSION, MARK}
use Rattle.table.specs.Cells.{atom_cell}
use Rattle.same_model.specs.Same.{Molecule, image}
use Rattle.same_model.specs.Redrawing.{Redrawing}
use Rattle.same_model.proofs.Cells.{Alike, alike, cells-alike}
use Rattle.folding.specs.Folding.{bared}
use Rattle.folding.proofs.Bared.{atoms-extension, bared-cell, bared-joined, bared-settled}

module _ {x y : Molecule} (w : Redrawing x y) where
  abbrev t : ℕ → ℕ
  t a = image w.renumbering a

  below : (a : ℕ) → a < x.n → t a < y.n
  below a l = let q = w.renumbers.below a l in let e : x.n ≡ y.n = w.counts in omega arith

  kept : (a b f : ℕ) → f < atom_cells → (f ≡ EXTENSION → ⊥) → (f ≡ MARK → ⊥) → atom_cell x.atoms a f ≡ atom_cell y.atoms b f → atom_cell (bared x).atoms a f ≡ atom_cell (bared y).atoms b f
  kept a b f l h k e = bared-cell x a f l h k ∙ e ∙ sym (bared-cell y b f l h k)

  bare_alike : (a : ℕ) → a < x.n → Alike (bared x) (bared y) a (t a)
  bare_alike a l =
      let k = alike x y a (t a) (w.cells a l) in
      record {
        element = kept a (t a) ELEMENT (omega arith) (λ e. omega arith) (λ e. omega arith) k.element;
        isotope = kept a (t a) ISOTOPE (omega arith) (λ e. omega arith) (λ e. omega arith) k.isotope;
        hydrogens = kept a (t a) HYDROGENS (omega arith) (λ e. omega arith) (λ e. omega arith) k.hydrogens;
        charge = kept a (t a) CHARGE (omega arith) (λ e. omega arith) (λ e. omega arith) k.charge;
        extension = atoms-extension x.n a x.atoms l ∙ sym (atoms-extension y.n (t a) y.atoms (below a l));
      }

  pub bare-redrawing : Redrawing (bared x) (bared y)
  bare-redrawing =
      record {
        renumbering = w.renumbering;
        counts = w.counts;
        renumbers = w.renumbers;
        cells = λ a l. cells-alike (bared x) (bared y) a (t a) (bare_alike a l);
        bonds = λ a b l k. bared-joined x a b ∙ w.bonds a b l k ∙ sym (bared-joined y (t a) (t b));
        sums = λ a l. bared-settled x a ∙ w.sums a l ∙ sym (bared-settled y (t a));
      }
