-- Five cells compared, the element first. Assumes nothing.
use mathlib.Core.Path.{◌≡◌, sym, ap, ◌∙◌}
use mathlib.Core.Bool.{Bool, true, false, ◌&&◌, not}
use mathlib.Core.List.{List}
use Prim.Native.Nat.{ℕ}
use lib.IntN.{ℤ}
use lib.Dec.{eqb}
use borrow.Author.Tests.{eq-eqb, ne_eqb, not-true, not-false}
use Rattle.loops.specs.Loop.{pick}
use Rattle.table.specs.Limits.{ELEMENT, ISOTOPE, HYDROGENS, CHARGE, EXTENSION}
use Rattle.table.specs.Cells.{atom_cell}
use Rattle.kinds.specs.Kind.{order}
use Rattle.same_model.specs.Same.{eq_z, same_cells}
use Rattle.same_drawing.specs.Drawing.{settled_order, atoms_only}

module _ (t u : List ℤ) (a b : ℕ) where
  abbrev cell : ℕ → Bool
  cell f = eq_z (atom_cell t a f) (atom_cell u b f)

  pub other-element : {r : Bool} → r ≡ eq_z (atom_cell t a ELEMENT) (atom_cell u b ELEMENT) → not r ≡ true → false ≡ same_cells (atoms_only t) (atoms_only u) a b
  unfolding same_cells
  other-element {r} e h = sym (ap (λ (z : Bool). z && cell ISOTOPE && cell HYDROGENS && cell CHARGE && cell EXTENSION) (sym e ∙ not-true r h))

  pub five-cells : {r i h c x : Bool} → r ≡ eq_z (atom_cell t a ELEMENT) (atom_cell u b ELEMENT) → not r ≡ false → i ≡ eq_z (atom_cell t a ISOTOPE) (atom_cell u b ISOTOPE) → h ≡ eq_z (atom_cell t a HYDROGENS) (atom_cell u b HYDROGENS)
      → c ≡ eq_z (atom_cell t a CHARGE) (atom_cell u b CHARGE) → x ≡ eq_z (atom_cell t a EXTENSION) (atom_cell u b EXTENSION) → (i && h && c && x) ≡ same_cells (atoms_only t) (atoms_only u) a b
  unfolding same_cells
  five-cells {r} {i} {h} {c} {x} er n ei eh ec ex =
      ap (λ (z : Bool). z && h && c && x) ei
      ∙ ap (λ (z : Bool). cell ISOTOPE && z && c && x) eh
      ∙ ap (λ (z : Bool). cell ISOTOPE && cell HYDROGENS && z && x) ec
      ∙ ap (λ (z : Bool). cell ISOTOPE && cell HYDROGENS && cell CHARGE && z) ex
      ∙ sym (ap (λ (z : Bool). z && cell ISOTOPE && cell HYDROGENS && cell CHARGE && cell EXTENSION) (sym er ∙ not-false r n))

pub chosen-order : (k c : ℕ) → c ≡ 1 → 2 ≡ settled_order k c
chosen-order k c e = sym (ap (λ (z : Bool). pick z 2 (order k)) (eq-eqb c 1 e))

pub other-order : (k c : ℕ) {r : ℕ} → (c ≡ 1 → ⊥) → r ≡ order k → r ≡ settled_order k c
other-order k c h e = e ∙ sym (ap (λ (z : Bool). pick z 2 (order k)) (ne_eqb c 1 h))

-- keys first, then the cells
module _ (u w : ℕ) (t l : List ℤ) (a b : ℕ) where
  pub other_key : (u ≡ w → ⊥) → false ≡ (eqb u w && same_cells (atoms_only t) (atoms_only l) a b)
  other_key h = sym (ap (λ (z : Bool). z && same_cells (atoms_only t) (atoms_only l) a b) (ne_eqb u w h))

  pub same_key : {r : Bool} → u ≡ w → r ≡ same_cells (atoms_only t) (atoms_only l) a b → r ≡ (eqb u w && same_cells (atoms_only t) (atoms_only l) a b)
  same_key e h = h ∙ sym (ap (λ (z : Bool). z && same_cells (atoms_only t) (atoms_only l) a b) (eq-eqb u w e))
