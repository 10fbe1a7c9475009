-- By computation: the two Kekulé drawings of o-xylene, `CC1=C(C)C=CC=C1` and `CC=1C(C)=CC=CC1`, are redrawings of one another. Assumes nothing.
use mathlib.Core.Path.{◌≡◌, refl}
use mathlib.Core.Bool.{true}
use mathlib.Core.List.{List, [], ◌∷◌, ◌++◌}
use Prim.Native.Nat.{ℕ}
use native.Mathlib.Omega.{arith}
use lib.IntN.{ℤ, pos}
use Rattle.loops.specs.Loop.{each, run}
use Rattle.kinds.specs.Kind.{order}
use Rattle.table.specs.Cells.{number, in_range, touches}
use Rattle.table.specs.Valid.{selected_ok, same_ends, fresh, distinct, atom_ok, bond_ok, valid}
use Rattle.table.proofs.Valid.{facts}
use Rattle.valence.specs.Valence.{delocalized}
use Rattle.table_graph.specs.Graph.{share, bond_sum}
use Rattle.same_model.specs.Same.{Molecule, molecule, same_cells, joins, order_between}
use Rattle.same_model.specs.Redrawing.{Redrawing}
use Rattle.folding.specs.Folding.{Complete}
use Rattle.redrawing.specs.Redrawn.{Redrawn}
use Rattle.redrawing.proofs.Tested.{tested-drawing}
use Rattle.redrawing.proofs.Claims.{redrawing-redrawn}

-- a carbon with h hydrogens; a bond
abbrev carbon : ℕ → List ℤ
carbon h = pos 6 ∷ pos 0 ∷ pos 0 ∷ pos h ∷ pos 0 ∷ pos 0 ∷ pos 0 ∷ []

abbrev bond : ℕ → ℕ → ℕ → List ℤ
bond a b k = pos a ∷ pos b ∷ pos k ∷ []

abbrev atoms : List ℤ
atoms = carbon 3 ++ carbon 0 ++ carbon 0 ++ carbon 3 ++ carbon 1 ++ carbon 1 ++ carbon 1 ++ carbon 1

-- `CC1=C(C)C=CC=C1`
abbrev pub first : Molecule
first = molecule atoms (bond 0 1 0 ++ bond 1 2 2 ++ bond 2 3 0 ++ bond 2 4 0 ++ bond 4 5 2 ++ bond 5 6 0 ++ bond 6 7 2 ++ bond 1 7 0) 8 8

-- `CC=1C(C)=CC=CC1`
abbrev pub second : Molecule
second = molecule atoms (bond 0 1 0 ++ bond 1 2 0 ++ bond 2 3 0 ++ bond 2 4 2 ++ bond 4 5 0 ++ bond 5 6 2 ++ bond 6 7 0 ++ bond 1 7 2) 8 8

valid-first : valid first.atoms first.bonds 8 8 ≡ true
unfolding valid each atom_ok bond_ok selected_ok in_range number distinct fresh same_ends
valid-first = refl

valid-second : valid second.atoms second.bonds 8 8 ≡ true
unfolding valid each atom_ok bond_ok selected_ok in_range number distinct fresh same_ends
valid-second = refl

complete-first : Complete first
complete-first = record { valid = facts first.atoms first.bonds 8 8 valid-first; atoms_room = omega arith; bonds_room = omega arith }

complete-second : Complete second
complete-second = record { valid = facts second.atoms second.bonds 8 8 valid-second; atoms_room = omega arith; bonds_room = omega arith }

drawing : Redrawing first second
unfolding each same_cells order_between joins bond_sum share touches run number order delocalized
drawing = tested-drawing first second (record { counts = refl; cells = refl; bonds = refl; sums = refl })

pub xylene : Redrawn first second
xylene = redrawing-redrawn drawing complete-first complete-second
