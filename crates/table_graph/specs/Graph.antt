-- 01, Hydrogens and kept atoms: the bond sum, the delocalized ("kept") atoms, and the graph that matchings ("placements") see
use Rattle.std.specs.Prelude.{ℕ, ◌+◌, List, Bool, true, false, not, ℤ, eqb}
use Rattle.loops.specs.Loop.{pick, each, run, up_to}
use Rattle.kinds.specs.Kind.{elided, order}
use Rattle.table.specs.Limits.{CHARGE}
use Rattle.table.specs.Cells.{atom_cell, element, selected, hydrogens, end1, end2, kind, touches}
use Rattle.valence.specs.Valence.{delocalized}
use Rattle.matching.specs.Enumeration.{Row, matchings}
use Rattle.matching.specs.Graph.{Bond, is_matching}
use Rattle.matching.specs.Model.{some?}

-- what the bond b adds to the bond sum of the atom a
unfoldable pub share : List ℤ → ℕ → ℕ → ℕ
share bonds a b = pick (touches bonds a b) (order (kind bonds b)) 0

abbrev pub add_share : List ℤ → ℕ → ℕ → ℕ → ℕ
add_share bonds a b s = s + share bonds a b

-- 01: the bond sum of an atom adds the kinds of its bonds, an elided bond counting 1
unfoldable pub bond_sum : List ℤ → ℕ → ℕ → ℕ
bond_sum bonds m a = run (add_share bonds a) 0 m 0

-- 01's "kept", by 02's P1
abbrev pub delocalized_at : List ℤ → List ℤ → ℕ → ℕ → Bool
delocalized_at atoms bonds m a = delocalized (element atoms a) (selected atoms a) (atom_cell atoms a CHARGE) (bond_sum bonds m a) (hydrogens atoms a)

abbrev pub flag : Bool → ℕ
flag true = 1
flag false = 0

abbrev pub delocalized_flag : List ℤ → List ℤ → ℕ → ℕ → ℕ
delocalized_flag atoms bonds m a = flag (delocalized_at atoms bonds m a)

abbrev pub elided_flag : List ℤ → ℕ → ℕ
elided_flag bonds b = flag (eqb (kind bonds b) elided)

-- none of n atoms is selected
abbrev pub not_selected : List ℤ → ℕ → Bool
not_selected atoms a = not (eqb (selected atoms a) 1)

unfoldable pub none_selected : List ℤ → ℕ → Bool
none_selected atoms n = each (not_selected atoms) 0 n

-- the flags of n atoms, and the bonds, as matchings see them
abbrev pub delocalized_flags : List ℤ → List ℤ → ℕ → ℕ → List ℕ
delocalized_flags atoms bonds n m = up_to (delocalized_flag atoms bonds m) 0 n

abbrev pub bond_of : List ℤ → ℕ → Bond
bond_of bonds b = record { end1 = end1 bonds b; end2 = end2 bonds b; elided = eqb (kind bonds b) elided }

abbrev pub graph_of : List ℤ → ℕ → List Bond
graph_of bonds m = up_to (bond_of bonds) 0 m

-- the row is a matching (01's placement) of the molecule
abbrev pub matching_of : List ℤ → List ℤ → ℕ → ℕ → Row → Bool
matching_of atoms bonds n m = is_matching (delocalized_flags atoms bonds n m) (graph_of bonds m)

-- a matching exists: the enumeration (01's book) of the molecule has an entry
unfoldable pub matchable : List ℤ → List ℤ → ℕ → ℕ → Bool
matchable atoms bonds n m = some? (matchings (matching_of atoms bonds n m) m)
