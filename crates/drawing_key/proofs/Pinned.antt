-- The keys of some molecules, as one table under one theorem, by computation: a constant has the law too. Assumes nothing.
use mathlib.Core.Path.{◌≡◌, refl}
use mathlib.Core.List.{List, [], ◌∷◌, map}
use Prim.Native.Nat.{ℕ}
use lib.IntN.{pos}
use Rattle.kinds.specs.Kind.{order}
use Rattle.loops.specs.Loop.{run, up_to}
use Rattle.valence.specs.Valence.{targets, first_target, shifted_target, delocalized}
use Rattle.table.specs.Cells.{number, touches}
use Rattle.table_graph.specs.Graph.{share, bond_sum}
use Rattle.same_model.specs.Same.{Molecule, molecule, joins, order_between}
use Rattle.same_keys.specs.Keys.{mixed}
use Rattle.drawing_key.specs.Key.{cells_number, joined_sum, hashed, next_round, atom_keys, summed, key_of}

-- atoms (element, selected, isotope, hydrogens, charge, extension, mark) and bonds (first, second, kind) of each text
unfoldable pub molecules : List Molecule
molecules =
    molecule (pos 6 ∷ pos 0 ∷ pos 0 ∷ pos 4 ∷ pos 0 ∷ pos 0 ∷ pos 0 ∷ []) ([]) 1 0 ∷  -- C
    molecule (pos 6 ∷ pos 0 ∷ pos 0 ∷ pos 3 ∷ pos 0 ∷ pos 0 ∷ pos 0 ∷ pos 6 ∷ pos 0 ∷ pos 0 ∷ pos 2 ∷ pos 0 ∷ pos 0 ∷ pos 0 ∷ pos 8 ∷ pos 0 ∷ pos 0 ∷ pos 1 ∷ pos 0 ∷ pos 0 ∷ pos 0 ∷ []) (pos 0 ∷ pos 1 ∷ pos 0 ∷ pos 1 ∷ pos 2 ∷ pos 0 ∷ []) 3 2 ∷  -- CCO
    molecule (pos 6 ∷ pos 0 ∷ pos 0 ∷ pos 3 ∷ pos 0 ∷ pos 0 ∷ pos 0 ∷ pos 8 ∷ pos 0 ∷ pos 0 ∷ pos 0 ∷ pos 0 ∷ pos 0 ∷ pos 0 ∷ pos 6 ∷ pos 0 ∷ pos 0 ∷ pos 3 ∷ pos 0 ∷ pos 0 ∷ pos 0 ∷ []) (pos 0 ∷ pos 1 ∷ pos 0 ∷ pos 1 ∷ pos 2 ∷ pos 0 ∷ []) 3 2 ∷  -- COC
    molecule (pos 6 ∷ pos 0 ∷ pos 0 ∷ pos 3 ∷ pos 0 ∷ pos 0 ∷ pos 0 ∷ pos 7 ∷ pos 0 ∷ pos 0 ∷ pos 3 ∷ pos 1 ∷ pos 0 ∷ pos 0 ∷ []) (pos 0 ∷ pos 1 ∷ pos 0 ∷ []) 2 1 ∷  -- C[NH3+]
    molecule (pos 6 ∷ pos 0 ∷ pos 13 ∷ pos 4 ∷ pos 0 ∷ pos 0 ∷ pos 0 ∷ []) ([]) 1 0 ∷  -- [13CH4]
    molecule (pos 6 ∷ pos 0 ∷ pos 0 ∷ pos 2 ∷ pos 0 ∷ pos 0 ∷ pos 0 ∷ pos 8 ∷ pos 0 ∷ pos 0 ∷ pos 0 ∷ pos 0 ∷ pos 0 ∷ pos 0 ∷ []) (pos 0 ∷ pos 1 ∷ pos 2 ∷ []) 2 1 ∷  -- C=O
    molecule (pos 6 ∷ pos 0 ∷ pos 0 ∷ pos 3 ∷ pos 0 ∷ pos 0 ∷ pos 0 ∷ pos 6 ∷ pos 0 ∷ pos 0 ∷ pos 0 ∷ pos 0 ∷ pos 0 ∷ pos 0 ∷ pos 6 ∷ pos 0 ∷ pos 0 ∷ pos 0 ∷ pos 0 ∷ pos 0 ∷ pos 0 ∷ pos 6 ∷ pos 0 ∷ pos 0 ∷ pos 3 ∷ pos 0 ∷ pos 0 ∷ pos 0 ∷ pos 6 ∷ pos 0 ∷ pos 0 ∷ pos 1 ∷ pos 0 ∷ pos 0 ∷ pos 0 ∷ pos 6 ∷ pos 0 ∷ pos 0 ∷ pos 1 ∷ pos 0 ∷ pos 0 ∷ pos 0 ∷ pos 6 ∷ pos 0 ∷ pos 0 ∷ pos 1 ∷ pos 0 ∷ pos 0 ∷ pos 0 ∷ pos 6 ∷ pos 0 ∷ pos 0 ∷ pos 1 ∷ pos 0 ∷ pos 0 ∷ pos 0 ∷ []) (pos 0 ∷ pos 1 ∷ pos 0 ∷ pos 1 ∷ pos 2 ∷ pos 2 ∷ pos 2 ∷ pos 3 ∷ pos 0 ∷ pos 2 ∷ pos 4 ∷ pos 0 ∷ pos 4 ∷ pos 5 ∷ pos 2 ∷ pos 5 ∷ pos 6 ∷ pos 0 ∷ pos 6 ∷ pos 7 ∷ pos 2 ∷ pos 1 ∷ pos 7 ∷ pos 0 ∷ []) 8 8 ∷  -- CC1=C(C)C=CC=C1
    molecule (pos 6 ∷ pos 0 ∷ pos 0 ∷ pos 3 ∷ pos 0 ∷ pos 0 ∷ pos 0 ∷ pos 6 ∷ pos 0 ∷ pos 0 ∷ pos 0 ∷ pos 0 ∷ pos 0 ∷ pos 0 ∷ pos 6 ∷ pos 0 ∷ pos 0 ∷ pos 0 ∷ pos 0 ∷ pos 0 ∷ pos 0 ∷ pos 6 ∷ pos 0 ∷ pos 0 ∷ pos 3 ∷ pos 0 ∷ pos 0 ∷ pos 0 ∷ pos 6 ∷ pos 0 ∷ pos 0 ∷ pos 1 ∷ pos 0 ∷ pos 0 ∷ pos 0 ∷ pos 6 ∷ pos 0 ∷ pos 0 ∷ pos 1 ∷ pos 0 ∷ pos 0 ∷ pos 0 ∷ pos 6 ∷ pos 0 ∷ pos 0 ∷ pos 1 ∷ pos 0 ∷ pos 0 ∷ pos 0 ∷ pos 6 ∷ pos 0 ∷ pos 0 ∷ pos 1 ∷ pos 0 ∷ pos 0 ∷ pos 0 ∷ []) (pos 0 ∷ pos 1 ∷ pos 0 ∷ pos 1 ∷ pos 2 ∷ pos 0 ∷ pos 2 ∷ pos 3 ∷ pos 0 ∷ pos 2 ∷ pos 4 ∷ pos 2 ∷ pos 4 ∷ pos 5 ∷ pos 0 ∷ pos 5 ∷ pos 6 ∷ pos 2 ∷ pos 6 ∷ pos 7 ∷ pos 0 ∷ pos 1 ∷ pos 7 ∷ pos 2 ∷ []) 8 8 ∷  -- CC=1C(C)=CC=CC1
    molecule (pos 6 ∷ pos 0 ∷ pos 0 ∷ pos 3 ∷ pos 0 ∷ pos 0 ∷ pos 0 ∷ pos 6 ∷ pos 1 ∷ pos 0 ∷ pos 0 ∷ pos 0 ∷ pos 0 ∷ pos 0 ∷ pos 6 ∷ pos 1 ∷ pos 0 ∷ pos 1 ∷ pos 0 ∷ pos 0 ∷ pos 0 ∷ pos 6 ∷ pos 1 ∷ pos 0 ∷ pos 1 ∷ pos 0 ∷ pos 0 ∷ pos 0 ∷ pos 6 ∷ pos 1 ∷ pos 0 ∷ pos 1 ∷ pos 0 ∷ pos 0 ∷ pos 0 ∷ pos 6 ∷ pos 1 ∷ pos 0 ∷ pos 1 ∷ pos 0 ∷ pos 0 ∷ pos 0 ∷ pos 6 ∷ pos 1 ∷ pos 0 ∷ pos 0 ∷ pos 0 ∷ pos 0 ∷ pos 0 ∷ pos 6 ∷ pos 0 ∷ pos 0 ∷ pos 3 ∷ pos 0 ∷ pos 0 ∷ pos 0 ∷ []) (pos 0 ∷ pos 1 ∷ pos 0 ∷ pos 1 ∷ pos 2 ∷ pos 0 ∷ pos 2 ∷ pos 3 ∷ pos 0 ∷ pos 3 ∷ pos 4 ∷ pos 0 ∷ pos 4 ∷ pos 5 ∷ pos 0 ∷ pos 5 ∷ pos 6 ∷ pos 0 ∷ pos 1 ∷ pos 6 ∷ pos 0 ∷ pos 6 ∷ pos 7 ∷ pos 0 ∷ []) 8 8 ∷  -- Cc1ccccc1C
    []

unfoldable pub keys : List ℕ
keys =
    34477373992790025 ∷  -- C
    235204076836452222 ∷  -- CCO
    8799073505208552281 ∷  -- COC
    15948860301890130970 ∷  -- C[NH3+]
    6165469224856405073 ∷  -- [13CH4]
    6578254045887853054 ∷  -- C=O
    7027393778569951822 ∷  -- CC1=C(C)C=CC=C1
    7027393778569951822 ∷  -- CC=1C(C)=CC=CC1
    7027393778569951822 ∷  -- Cc1ccccc1C
    []

pub pinned-keys : map key_of molecules ≡ keys
unfolding molecules keys order run up_to targets first_target shifted_target delocalized number touches share bond_sum joins order_between mixed cells_number joined_sum hashed next_round atom_keys summed
pinned-keys = refl
