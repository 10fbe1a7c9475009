-- 02, P4, "Same compound, drawn differently": whether two molecules are the same, and the rows and the renumbering that show it. No search is meant here.
use Rattle.std.specs.Prelude.{ℕ, zero, suc, ◌+◌, Bool, true, false, ◌&&◌, ◌||◌, not, length, get_or, replicate, ℤ, eqb, leb}
use mathlib.Core.List.{List, [], ◌∷◌, map, flat_map}
use Rattle.std.specs.Int.Signed.{le_z}
use Rattle.loops.specs.Loop.{pick, each, run, up_to}
use Rattle.table.specs.Limits.{max_atoms, ELEMENT, ISOTOPE, HYDROGENS, CHARGE, EXTENSION}
use Rattle.table.specs.Cells.{atom_cell, end1, end2, kind}
use Rattle.table.specs.Sound.{sound}
use Rattle.kinds.specs.Kind.{order}
use Rattle.matching.specs.Enumeration.{Row, passing, matchings, fill}
use Rattle.matching.specs.Model.{some?, head_or}
use Rattle.table_graph.specs.Graph.{matching_of}
use Rattle.kekule.specs.Kekule.{kekulized, roomy}

-- "at most 64 atoms (else 19, after 13)"; "the 64 atoms stay when other limits rise"
abbrev pub max_same : ℕ
max_same = 64

-- a molecule: its tables and its two counts
pub record Molecule : Type 0 where
  pub atoms : List ℤ
  pub bonds : List ℤ
  pub n : ℕ
  pub m : ℕ

abbrev pub molecule : List ℤ → List ℤ → ℕ → ℕ → Molecule
molecule atoms bonds n m = record { atoms = atoms; bonds = bonds; n = n; m = m }

-- the row is a matching ("placement") of the molecule, and all such rows in 01's order
abbrev pub is_placement : Molecule → Row → Bool
is_placement x = matching_of x.atoms x.bonds x.n x.m

abbrev pub placements : Molecule → List Row
placements x = matchings (is_placement x) x.m

-- "settle": the molecule that kekulizing by a row leaves
abbrev pub settled : Molecule → Row → Molecule
settled x r = let k = kekulized x.atoms x.bonds x.n x.m r in record { atoms = k.atoms; bonds = k.bonds; n = x.n; m = x.m }

-- "Atom cells must match": each but the selected one, which settling clears; "marks are left aside"
abbrev pub eq_z : ℤ → ℤ → Bool
eq_z u w = le_z w u && le_z u w

abbrev pub same_cell : Molecule → Molecule → ℕ → ℕ → ℕ → Bool
same_cell x y a b f = eq_z (atom_cell x.atoms a f) (atom_cell y.atoms b f)

unfoldable pub same_cells : Molecule → Molecule → ℕ → ℕ → Bool
same_cells x y a b = same_cell x y a b ELEMENT && same_cell x y a b ISOTOPE && same_cell x y a b HYDROGENS && same_cell x y a b CHARGE && same_cell x y a b EXTENSION

-- the bond k joins the atoms a and b
unfoldable pub joins : Molecule → ℕ → ℕ → ℕ → Bool
joins x a b k = (eqb (end1 x.bonds k) a && eqb (end2 x.bonds k) b) || (eqb (end1 x.bonds k) b && eqb (end2 x.bonds k) a)

-- "bonds are compared by order, so elided and `-` are equal": the order of the bond between a and b (valid tables have at most one), 0 where there is none
abbrev pub add_order : Molecule → ℕ → ℕ → ℕ → ℕ → ℕ
add_order x a b k s = s + pick (joins x a b k) (order (kind x.bonds k)) 0

unfoldable pub order_between : Molecule → ℕ → ℕ → ℕ
order_between x a b = run (add_order x a b) 0 x.m 0

-- a renumbering, "first to second": its entry a is the second molecule's number of the first's atom a
abbrev pub image : List ℕ → ℕ → ℕ
image t a = get_or t a 0

-- the first molecule under the renumbering is the second: atom cells match, and so does the order between any two atoms
unfoldable pub carries_atoms : Molecule → Molecule → List ℕ → Bool
carries_atoms x y t = each (λ a. same_cells x y a (image t a)) 0 x.n

unfoldable pub carries_bonds : Molecule → Molecule → List ℕ → Bool
carries_bonds x y t = each (λ a. each (λ b. eqb (order_between x a b) (order_between y (image t a) (image t b))) 0 x.n) 0 x.n

abbrev pub carries : Molecule → Molecule → List ℕ → Bool
carries x y t = carries_atoms x y t && carries_bonds x y t

-- all lists of k numbers below n; of two, the one that "is smallest at the first [place] that differs" comes first
unfoldable pub words : ℕ → ℕ → List (List ℕ)
words n zero = [] ∷ []
words n (suc k) = let w = words n k in flat_map (λ d. map (λ t. d ∷ t) w) (up_to (λ d. d) 0 n)

-- no number stands in the list twice
unfoldable pub occurs : ℕ → List ℕ → Bool
occurs d [] = false
occurs d (e ∷ t) = eqb d e || occurs d t

unfoldable pub apart : List ℕ → Bool
apart [] = true
apart (d ∷ t) = not (occurs d t) && apart t

-- all renumberings of n atoms, in that order
abbrev pub renumberings : ℕ → List (List ℕ)
renumberings n = passing apart (words n n)

-- "some placement of one and some placement of the other settle to the same molecule under some renumbering": these two under this one
abbrev pub fits : Molecule → Molecule → Row → Row → List ℕ → Bool
fits x y r s t = carries (settled x r) (settled y s) t

-- the renumberings under which the two rows settle to the same; the rows of the second molecule that go with a row of the first; the rows of the first with which some go
unfoldable pub fitting : Molecule → Molecule → Row → Row → List (List ℕ)
fitting x y r s = passing (fits x y r s) (renumberings x.n)

unfoldable pub partners : Molecule → Molecule → Row → List Row
partners x y r = passing (λ s. some? (fitting x y r s)) (placements y)

unfoldable pub partnered : Molecule → Molecule → List Row
partnered x y = passing (λ r. some? (partners x y r)) (placements x)

-- whether they are the same: molecules of unlike atom counts are not
unfoldable pub same? : Molecule → Molecule → Bool
same? x y = eqb x.n y.n && some? (partnered x y)

-- "Where several fit, the first row of the first molecule decides, then of the second, then the renumbering"
unfoldable pub first_row : Molecule → Molecule → Row
first_row x y = head_or [] (partnered x y)

unfoldable pub second_row : Molecule → Molecule → Row
second_row x y = head_or [] (partners x y (first_row x y))

unfoldable pub first_renumbering : Molecule → Molecule → List ℕ
first_renumbering x y = head_or [] (fitting x y (first_row x y) (second_row x y))

-- what the call hands back: its answer as a number (0 "yes", 254 "no", else the refusal's), and all cells of both rows and of the renumbering as they are then
pub record SameReply : Type 0 where
  pub code : ℕ
  pub row1 : List ℕ
  pub row2 : List ℕ
  pub renumbering : List ℕ

abbrev pub same_reply : ℕ → List ℕ → List ℕ → List ℕ → SameReply
same_reply c r s t = record { code = c; row1 = r; row2 = s; renumbering = t }

-- "zeroes all three"
abbrev pub zeroed_reply : ℕ → List ℕ → List ℕ → List ℕ → SameReply
zeroed_reply c r s t = same_reply c (replicate (length r) 0) (replicate (length s) 0) (replicate (length t) 0)

-- "On `yes` hand out a renumbering and both rows; `no` is said exactly when none exists, and zeroes all three"
unfoldable pub answered : Molecule → Molecule → List ℕ → List ℕ → List ℕ → SameReply
answered x y r s t =
    pick (same? x y)
    (same_reply 0 (fill (length r) (first_row x y)) (fill (length s) (second_row x y)) (fill (length t) (first_renumbering x y)))
    (zeroed_reply 254 r s t)

-- the lent tables, rows and renumbering are as long as 01 asks
abbrev pub roomy_both : Molecule → Molecule → List ℕ → List ℕ → List ℕ → Bool
roomy_both x y r s t = roomy x.atoms x.bonds (length r) && roomy y.atoms y.bonds (length s) && leb max_atoms (length t)

abbrev pub sound_both : Molecule → Molecule → Bool
sound_both x y = sound x.atoms x.bonds x.n x.m && sound y.atoms y.bonds y.n y.m

abbrev pub few_both : Molecule → Molecule → Bool
few_both x y = leb x.n max_same && leb y.n max_same

-- the call: 1, and nothing changes; then 13 for either molecule; then 19 for either; then the answer
unfoldable pub same_of : Molecule → Molecule → List ℕ → List ℕ → List ℕ → SameReply
same_of x y r s t =
    pick (roomy_both x y r s t)
    (pick (sound_both x y) (pick (few_both x y) (answered x y r s t) (zeroed_reply 19 r s t)) (zeroed_reply 13 r s t))
    (same_reply 1 r s t)
