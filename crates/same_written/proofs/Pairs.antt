-- P4 is not transitive: each of two drawings with fixed double bonds is the same as the ring in selected letters, and they are not the same as one another. Assumes nothing.
use Prim.Native.Nat.{ℕ, ◌<◌}
use native.Mathlib.Omega.{arith}
use mathlib.Core.Path.{◌≡◌, refl, sym, ap, ◌∙◌}
use mathlib.Core.Bool.{Bool, true, false, ◌&&◌, not}
use mathlib.Core.List.{List, [], ◌∷◌}
use lib.ListN.{replicate}
use lib.IntN.{pos}
use lib.Dec.{eqb}
use Rattle.loops.specs.Loop.{each, run, up_to}
use Rattle.loops.proofs.Loops.{each_at}
use Rattle.kinds.specs.Kind.{order}
use Rattle.valence.specs.Valence.{targets, first_target, first_fitting, reached_in, hydrogens_of, shifted_target, delocalized}
use Rattle.table.specs.Limits.{HYDROGENS}
use Rattle.table.specs.Cells.{number, atom_cell, touches}
use Rattle.table.specs.Edits.{doubled, doubled_bonds, unselected_atoms}
use Rattle.matching.specs.Enumeration.{Row, is_row}
use Rattle.matching.specs.Graph.{is_matching, each_once, degree, chosen_induced}
use Rattle.matching.proofs.Graph.{never, not-true}
use Rattle.table_graph.specs.Graph.{share, bond_sum, none_selected}
use Rattle.table_graph.proofs.Localized.{unselected-one}
use Rattle.same_model.specs.Same.{Molecule, settled, eq_z, same_cells, joins, order_between, image, carries, carries_atoms, carries_bonds, same?}
use Rattle.same_model.specs.Redrawing.{Placement, Same}
use Rattle.same_model.proofs.Lists.{In, here, there}
use Rattle.same_model.proofs.Cells.{alike}
use Rattle.same_model.proofs.Relation.{identity, identity-renumbers}
use Rattle.same_model.proofs.Sameness.{Carried, carried-facts, placement-in, same-fact, fact-same}
use Rattle.same_written.specs.Reading.{read_as}
use Rattle.same_written.proofs.Drawings.{first_text, second_text, ring_text, first_atoms, first_bonds, second_atoms, second_bonds, ring_atoms, ring_bonds, first, second, ring, first-is, second_is, ring-is}

-- ---- yes: each atom keeps its number, and the ring's row doubles the same bonds
zeros : Row
zeros = 0 ∷ 0 ∷ 0 ∷ 0 ∷ 0 ∷ 0 ∷ 0 ∷ 0 ∷ []

first-row : Row
first-row = 0 ∷ 1 ∷ 0 ∷ 0 ∷ 1 ∷ 0 ∷ 1 ∷ 0 ∷ []

second-row : Row
second-row = 0 ∷ 0 ∷ 0 ∷ 1 ∷ 0 ∷ 1 ∷ 0 ∷ 1 ∷ []

pub first-ring : Same first ring
unfolding first ring first_atoms first_bonds ring_atoms ring_bonds zeros first-row is_row is_matching each_once degree chosen_induced each run up_to delocalized targets first_target first_fitting reached_in hydrogens_of shifted_target number touches share bond_sum order doubled doubled_bonds unselected_atoms same_cells joins order_between carries_atoms carries_bonds
first-ring =
    record {
      row1 = zeros;
      row2 = first-row;
      renumbering = identity 8;
      counts = refl;
      placement1 = record { row = refl; placed = refl };
      placement2 = record { row = refl; placed = refl };
      renumbers = identity-renumbers 8;
      carried = refl;
    }

pub second-ring : Same second ring
unfolding second ring second_atoms second_bonds ring_atoms ring_bonds zeros second-row is_row is_matching each_once degree chosen_induced each run up_to delocalized targets first_target first_fitting reached_in hydrogens_of shifted_target number touches share bond_sum order doubled doubled_bonds unselected_atoms same_cells joins order_between carries_atoms carries_bonds
second-ring =
    record {
      row1 = zeros;
      row2 = second-row;
      renumbering = identity 8;
      counts = refl;
      placement1 = record { row = refl; placed = refl };
      placement2 = record { row = refl; placed = refl };
      renumbers = identity-renumbers 8;
      carried = refl;
    }

-- ---- no: in the first drawing a double bond joins the two ring atoms without hydrogens, in the second it does not
one_in : {r s : Row} → In r (s ∷ []) → r ≡ s
one_in here = refl
one_in (there i) = elim i [ ]

-- where no atom is selected, zeros are the one placement
only-zeros : (x : Molecule) → none_selected x.atoms x.n ≡ true → (r : Row) → Placement x r → r ≡ replicate x.m 0
only-zeros x h r p = one_in (rw (unselected-one x.atoms x.bonds x.n x.m h) at (placement-in x r p))

-- a double bond joins a and b, which have no hydrogens
abbrev bare_double : Molecule → ℕ → ℕ → Bool
bare_double x a b = (eq_z (atom_cell x.atoms a HYDROGENS) (pos 0) && eq_z (atom_cell x.atoms b HYDROGENS) (pos 0)) && eqb (order_between x a b) 2

-- a renumbering that carries one molecule onto another keeps that
bare-kept : (x y : Molecule) (t : List ℕ) → Carried x y t → (a b : ℕ) → a < x.n → b < x.n → bare_double x a b ≡ bare_double y (image t a) (image t b)
bare-kept x y t c a b l k =
    let p = (alike x y a (image t a) (c.cells a l)).hydrogens in
    let q = (alike x y b (image t b) (c.cells b k)).hydrogens in
    λ i. (eq_z (p i) (pos 0) && eq_z (q i) (pos 0)) && eqb (c.orders a b l k i) 2

unselected-first : none_selected first.atoms 8 ≡ true
unfolding first first_atoms none_selected each number
unselected-first = refl

unselected-second : none_selected second.atoms 8 ≡ true
unfolding second second_atoms none_selected each number
unselected-second = refl

first-bare : bare_double (settled first zeros) 1 2 ≡ true
unfolding first first_atoms first_bonds zeros run number order doubled doubled_bonds unselected_atoms joins order_between
first-bare = refl

second-bare : each (λ a. each (λ b. not (bare_double (settled second zeros) a b)) 0 8) 0 8 ≡ true
unfolding second second_atoms second_bonds zeros each run number order doubled doubled_bonds unselected_atoms joins order_between
second-bare = refl

pub first-second : Same first second → ⊥
unfolding first second zeros
first-second w =
    let r1 : w.row1 ≡ zeros = only-zeros first unselected-first w.row1 w.placement1 in
    let r2 : w.row2 ≡ zeros = only-zeros second unselected-second w.row2 w.placement2 in
    let t = w.renumbering in
    let h : carries (settled first zeros) (settled second zeros) t ≡ true = rw (r1, r2) at w.carried in
    let c = carried-facts (settled first zeros) (settled second zeros) t h in
    let b : bare_double (settled second zeros) (image t 1) (image t 2) ≡ true = sym (bare-kept (settled first zeros) (settled second zeros) t c 1 2 (omega arith) (omega arith)) ∙ first-bare in
    let e = each_at (λ a. each (λ b. not (bare_double (settled second zeros) a b)) 0 8) 8 (image t 1) second-bare (w.renumbers.below 1 (omega arith)) in
    let f = each_at (λ b. not (bare_double (settled second zeros) (image t 1) b)) 8 (image t 2) e (w.renumbers.below 2 (omega arith)) in
    never false (ap not (sym b) ∙ f) refl

-- THE STATEMENT, over what is read of CC1=C(C)C=CC=C1, CC=1C(C)=CC=CC1 and Cc1c(C)cccc1
pub first-as-ring : same? (read_as first_text) (read_as ring_text) ≡ true
first-as-ring = rw (first-is, ring-is) (fact-same first ring first-ring)

pub second-as-ring : same? (read_as second_text) (read_as ring_text) ≡ true
second-as-ring = rw (second_is, ring-is) (fact-same second ring second-ring)

pub first-not-second : same? (read_as first_text) (read_as second_text) ≡ false
first-not-second = rw (first-is, second_is) (not-true (same? first second) (λ h. first-second (same-fact first second h)))
