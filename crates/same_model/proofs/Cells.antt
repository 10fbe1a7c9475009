-- Atom cells that match are equal, so matching is an equivalence. Assumes nothing.
use mathlib.Core.Path.{◌≡◌, refl, sym, ap, ◌∙◌}
use mathlib.Core.Bool.{Bool, true, false, ◌&&◌}
use Prim.Native.Nat.{ℕ, ◌<◌}
use native.Mathlib.Omega.{arith}
use lib.IntN.{ℤ, pos, negsuc}
use lib.Dec.{leb}
use lib.Signed.{le_z}
use borrow.Author.Tests.{leb-true, le-leb}
use Rattle.loops.proofs.Loops.{and_left, and_right}
use Rattle.matching.proofs.Graph.{and_intro, never}
use Rattle.table.specs.Limits.{atom_cells, ELEMENT, SELECTED, ISOTOPE, HYDROGENS, CHARGE, EXTENSION}
use Rattle.table.specs.Cells.{atom_cell}
use Rattle.table.proofs.Edits.{unselected-field}
use Rattle.matching.specs.Enumeration.{Row}
use Rattle.same_model.specs.Same.{Molecule, eq_z, same_cell, same_cells, settled}

squeezed : (a b : ℕ) → leb b a ≡ true → leb a b ≡ true → a ≡ b
squeezed a b h k = let u = leb-true b a h in let w = leb-true a b k in omega arith

eq_z-equal : (u w : ℤ) → eq_z u w ≡ true → u ≡ w
eq_z-equal (pos a) (pos b) h = ap pos (squeezed a b (and_left (leb b a) (leb a b) h) (and_right (leb b a) (leb a b) h))
eq_z-equal (pos a) (negsuc b) h = absurd (never false h refl)
eq_z-equal (negsuc a) (pos b) h = absurd (never false h refl)
eq_z-equal (negsuc a) (negsuc b) h = ap negsuc (squeezed a b (and_right (leb a b) (leb b a) h) (and_left (leb a b) (leb b a) h))

le-self : (u : ℤ) → le_z u u ≡ true
le-self (pos a) = le-leb a a (omega arith)
le-self (negsuc a) = le-leb a a (omega arith)

equal-eq_z : (u w : ℤ) → u ≡ w → eq_z u w ≡ true
equal-eq_z u w e = rw e (and_intro (le_z w w) (le_z w w) (le-self w) (le-self w))

-- the five cells, one by one
pub record Alike (x y : Molecule) (a b : ℕ) : Type 0 where
  pub element : atom_cell x.atoms a ELEMENT ≡ atom_cell y.atoms b ELEMENT
  pub isotope : atom_cell x.atoms a ISOTOPE ≡ atom_cell y.atoms b ISOTOPE
  pub hydrogens : atom_cell x.atoms a HYDROGENS ≡ atom_cell y.atoms b HYDROGENS
  pub charge : atom_cell x.atoms a CHARGE ≡ atom_cell y.atoms b CHARGE
  pub extension : atom_cell x.atoms a EXTENSION ≡ atom_cell y.atoms b EXTENSION

module _ (x y : Molecule) (a b : ℕ) where
  abbrev cell : ℕ → Bool
  cell f = same_cell x y a b f

  equal : (f : ℕ) → same_cell x y a b f ≡ true → atom_cell x.atoms a f ≡ atom_cell y.atoms b f
  equal f h = eq_z-equal (atom_cell x.atoms a f) (atom_cell y.atoms b f) h

  pub alike : same_cells x y a b ≡ true → Alike x y a b
  unfolding same_cells
  alike h =
      let h4 = and_left (cell ELEMENT && cell ISOTOPE && cell HYDROGENS && cell CHARGE) (cell EXTENSION) h in
      let h3 = and_left (cell ELEMENT && cell ISOTOPE && cell HYDROGENS) (cell CHARGE) h4 in
      let h2 = and_left (cell ELEMENT && cell ISOTOPE) (cell HYDROGENS) h3 in
      record {
        element = equal ELEMENT (and_left (cell ELEMENT) (cell ISOTOPE) h2);
        isotope = equal ISOTOPE (and_right (cell ELEMENT) (cell ISOTOPE) h2);
        hydrogens = equal HYDROGENS (and_right (cell ELEMENT && cell ISOTOPE) (cell HYDROGENS) h3);
        charge = equal CHARGE (and_right (cell ELEMENT && cell ISOTOPE && cell HYDROGENS) (cell CHARGE) h4);
        extension = equal EXTENSION (and_right (cell ELEMENT && cell ISOTOPE && cell HYDROGENS && cell CHARGE) (cell EXTENSION) h);
      }

  equals : (f : ℕ) → atom_cell x.atoms a f ≡ atom_cell y.atoms b f → same_cell x y a b f ≡ true
  equals f e = equal-eq_z (atom_cell x.atoms a f) (atom_cell y.atoms b f) e

  pub cells-alike : Alike x y a b → same_cells x y a b ≡ true
  unfolding same_cells
  cells-alike k =
      and_intro (cell ELEMENT && cell ISOTOPE && cell HYDROGENS && cell CHARGE) (cell EXTENSION)
      (and_intro (cell ELEMENT && cell ISOTOPE && cell HYDROGENS) (cell CHARGE)
      (and_intro (cell ELEMENT && cell ISOTOPE) (cell HYDROGENS)
      (and_intro (cell ELEMENT) (cell ISOTOPE) (equals ELEMENT k.element) (equals ISOTOPE k.isotope))
      (equals HYDROGENS k.hydrogens))
      (equals CHARGE k.charge))
      (equals EXTENSION k.extension)

pub alike_self : (x : Molecule) (a : ℕ) → Alike x x a a
alike_self x a = record { element = refl; isotope = refl; hydrogens = refl; charge = refl; extension = refl }

pub alike-sym : {x y : Molecule} {a b : ℕ} → Alike x y a b → Alike y x b a
alike-sym k = record { element = sym k.element; isotope = sym k.isotope; hydrogens = sym k.hydrogens; charge = sym k.charge; extension = sym k.extension }

pub alike-trans : {x y z : Molecule} {a b c : ℕ} → Alike x y a b → Alike y z b c → Alike x z a c
alike-trans k l =
    record {
      element = k.element ∙ l.element;
      isotope = k.isotope ∙ l.isotope;
      hydrogens = k.hydrogens ∙ l.hydrogens;
      charge = k.charge ∙ l.charge;
      extension = k.extension ∙ l.extension;
    }

-- settling changes none of the five
pub alike-settled : (x : Molecule) (r : Row) (a : ℕ) → Alike x (settled x r) a a
alike-settled x r a =
    record {
      element = sym (stays ELEMENT (omega arith) (λ e. omega arith));
      isotope = sym (stays ISOTOPE (omega arith) (λ e. omega arith));
      hydrogens = sym (stays HYDROGENS (omega arith) (λ e. omega arith));
      charge = sym (stays CHARGE (omega arith) (λ e. omega arith));
      extension = sym (stays EXTENSION (omega arith) (λ e. omega arith));
    }
  where
    stays : (f : ℕ) → f < atom_cells → (f ≡ SELECTED → ⊥) → atom_cell (settled x r).atoms a f ≡ atom_cell x.atoms a f
    stays f l h = unselected-field x.n a f x.atoms l h
