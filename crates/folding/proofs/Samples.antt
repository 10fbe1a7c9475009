-- Folded texts, by computation: what is left of the tables that each is read into. Assumes nothing.
use mathlib.Core.Path.{◌≡◌, refl}
use mathlib.Core.List.{List, [], ◌∷◌, ◌++◌, map}
use Prim.Native.Nat.{ℕ, ◌*◌}
use lib.ListN.{take}
use lib.IntN.{ℤ, pos}
use Rattle.loops.specs.Loop.{run, how_many}
use Rattle.kinds.specs.Kind.{order}
use Rattle.table.specs.Limits.{atom_cells, bond_cells}
use Rattle.table.specs.Cells.{number, touches}
use Rattle.table.specs.Sound.{bond_degree}
use Rattle.table.specs.Orders.{bonds_from, bonds_at}
use Rattle.table_graph.specs.Graph.{share, bond_sum}
use Rattle.same_model.specs.Same.{Molecule, molecule}
use Rattle.folding.specs.Folding.{bared_atoms, bare_bond, bared_bonds, neighbour, plain_row, plain_hydrogen, folds, fold_into, folded_to, goes, bond_stays, packed, merged, folded}

-- an atom by element, isotope, hydrogens and extension; a bond
abbrev atom : ℕ → ℕ → ℕ → ℕ → List ℤ
atom e i h x = pos e ∷ pos 0 ∷ pos i ∷ pos h ∷ pos 0 ∷ pos x ∷ pos 0 ∷ []

abbrev bond : ℕ → ℕ → ℕ → List ℤ
bond a b k = pos a ∷ pos b ∷ pos k ∷ []

-- the rows in use
abbrev used : Molecule → Molecule
used x = molecule (take (atom_cells * x.n) x.atoms) (take (bond_cells * x.m) x.bonds) x.n x.m

-- `[H]C([H])([H])[H]`, `[H][H]`, `[2H]C`, `[H]=C`, `[CH4:1]`, `F/C=C/F`, `[PH8]([H])([H])C`
abbrev pub texts : List Molecule
texts =
    molecule (atom 1 0 0 0 ++ atom 6 0 0 0 ++ atom 1 0 0 0 ++ atom 1 0 0 0 ++ atom 1 0 0 0) (bond 0 1 0 ++ bond 1 2 0 ++ bond 1 3 0 ++ bond 1 4 0) 5 4
    ∷ molecule (atom 1 0 0 0 ++ atom 1 0 0 0) (bond 0 1 0) 2 1
    ∷ molecule (atom 1 2 0 0 ++ atom 6 0 3 0) (bond 0 1 0) 2 1
    ∷ molecule (atom 1 0 0 0 ++ atom 6 0 2 0) (bond 0 1 2) 2 1
    ∷ molecule (atom 6 0 4 1) [] 1 0
    ∷ molecule (atom 9 0 0 0 ++ atom 6 0 1 0 ++ atom 6 0 1 0 ++ atom 9 0 0 0) (bond 0 1 4 ++ bond 1 2 2 ++ bond 2 3 4) 4 3
    ∷ molecule (atom 15 0 8 0 ++ atom 1 0 0 0 ++ atom 1 0 0 0 ++ atom 6 0 3 0) (bond 0 1 0 ++ bond 0 2 0 ++ bond 0 3 0) 4 3
    ∷ []

-- to `C`, to itself three times, to `C`, to `F-C=C-F`, and to `[PH9]([H])C`, where the second hydrogen stays
abbrev pub left : List Molecule
left =
    molecule (atom 6 0 4 0) [] 1 0
    ∷ molecule (atom 1 0 0 0 ++ atom 1 0 0 0) (bond 0 1 0) 2 1
    ∷ molecule (atom 1 2 0 0 ++ atom 6 0 3 0) (bond 0 1 0) 2 1
    ∷ molecule (atom 1 0 0 0 ++ atom 6 0 2 0) (bond 0 1 2) 2 1
    ∷ molecule (atom 6 0 4 0) [] 1 0
    ∷ molecule (atom 9 0 0 0 ++ atom 6 0 1 0 ++ atom 6 0 1 0 ++ atom 9 0 0 0) (bond 0 1 1 ++ bond 1 2 2 ++ bond 2 3 1) 4 3
    ∷ molecule (atom 15 0 9 0 ++ atom 1 0 0 0 ++ atom 6 0 3 0) (bond 0 1 0 ++ bond 0 2 0) 3 2
    ∷ []

pub folded-texts : map (λ x. used (folded x)) texts ≡ left
unfolding merged bared_atoms bare_bond bared_bonds run how_many order number touches bond_degree bonds_from bonds_at share bond_sum neighbour plain_row plain_hydrogen folds fold_into folded_to goes bond_stays packed
folded-texts = refl
