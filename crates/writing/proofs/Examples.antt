-- Molecules with tetrahedral marks written, by computation (02, P8). Assumes nothing.
use Prim.Native.Nat.{ℕ}
use mathlib.Core.Path.{◌≡◌, refl}
use mathlib.Core.List.{List, [], ◌∷◌, ◌++◌}
use lib.IntN.{ℤ, pos}
use Rattle.kinds.specs.Kind.{order, bond_symbol, turned}
use Rattle.loops.specs.Loop.{run, up_to}
use Rattle.parity.specs.Parity.{oddly, odd_pairs, odd}
use Rattle.element.specs.Symbols.{among, symbols}
use Rattle.element.specs.Lookup.{bare, bytes_of, selected_bytes}
use Rattle.valence.specs.Valence.{targets, first_target, first_fitting, reached_in, hydrogens_of}
use Rattle.table.specs.Cells.{number, touches}
use Rattle.table.specs.Orders.{bonds_from, bonds_at, turns, turned_mark, turn_marks}
use Rattle.table_graph.specs.Graph.{share, bond_sum}
use Rattle.writing_walk.specs.Walk.{forest_of, renumbered, unused, write}
use Rattle.writing_walk.specs.Parents.{walk_rank}
use Rattle.writing.specs.Spell.{decimal, mark_bytes, hydrogen_bytes, size_bytes, bracket_bytes, without_brackets, spelled_atom, kind_bytes, bridge_bytes, rest_bytes, tokens_bytes}
use Rattle.writing.specs.Write.{tokens, written_rank, marks_written, text_of}

-- a row of an element with its hydrogens and its mark, and a row of a bond
atom : ℕ → ℕ → ℕ → List ℤ
atom e h k = pos e ∷ pos 0 ∷ pos 0 ∷ pos h ∷ pos 0 ∷ pos 0 ∷ pos k ∷ []

joined : ℕ → ℕ → ℕ → List ℤ
joined a b k = pos a ∷ pos b ∷ pos k ∷ []

-- `N[C@@H](C)C(=O)O`: the preceding atom stands before the hydrogen: stored as `@`, written as `@@`
alanine-atoms : List ℤ
alanine-atoms = atom 7 2 0 ++ atom 6 1 1 ++ atom 6 3 0 ++ atom 6 0 0 ++ atom 8 0 0 ++ atom 8 1 0

alanine-bonds : List ℤ
alanine-bonds = joined 0 1 0 ++ joined 1 2 0 ++ joined 1 3 0 ++ joined 3 4 2 ++ joined 3 5 0

-- `[C@](F)(Cl)(Br)I`: no preceding atom, and the children in the order of their bonds: as it is stored
halides-atoms : List ℤ
halides-atoms = atom 6 0 1 ++ atom 9 0 0 ++ atom 17 0 0 ++ atom 35 0 0 ++ atom 53 0 0

halides-bonds : List ℤ
halides-bonds = joined 0 1 0 ++ joined 0 2 0 ++ joined 0 3 0 ++ joined 0 4 0

-- `F[C@@](Cl)(Br)I`: the bond to the preceding atom is not the first: turned
star-atoms : List ℤ
star-atoms = atom 9 0 0 ++ atom 6 0 1 ++ atom 17 0 0 ++ atom 35 0 0 ++ atom 53 0 0

star-bonds : List ℤ
star-bonds = joined 1 2 0 ++ joined 0 1 0 ++ joined 1 3 0 ++ joined 1 4 0

-- `F[C@]1(Cl)CC1`: the bridge stands before two children, and its bond behind theirs: as it is stored
ring-atoms : List ℤ
ring-atoms = atom 9 0 0 ++ atom 6 0 1 ++ atom 17 0 0 ++ atom 6 2 0 ++ atom 6 2 0

ring-bonds : List ℤ
ring-bonds = joined 0 1 0 ++ joined 1 2 0 ++ joined 1 3 0 ++ joined 3 4 0 ++ joined 1 4 0

marked-texts : text_of alanine-atoms alanine-bonds 6 5 ∷ text_of halides-atoms halides-bonds 5 4 ∷ text_of star-atoms star-bonds 5 4 ∷ text_of ring-atoms ring-bonds 5 5 ∷ []
    ≡ (78 ∷ 91 ∷ 67 ∷ 64 ∷ 64 ∷ 72 ∷ 93 ∷ 40 ∷ 67 ∷ 41 ∷ 67 ∷ 40 ∷ 61 ∷ 79 ∷ 41 ∷ 79 ∷ [])
    ∷ (91 ∷ 67 ∷ 64 ∷ 93 ∷ 40 ∷ 70 ∷ 41 ∷ 40 ∷ 67 ∷ 108 ∷ 41 ∷ 40 ∷ 66 ∷ 114 ∷ 41 ∷ 73 ∷ [])
    ∷ (70 ∷ 91 ∷ 67 ∷ 64 ∷ 64 ∷ 93 ∷ 40 ∷ 67 ∷ 108 ∷ 41 ∷ 40 ∷ 66 ∷ 114 ∷ 41 ∷ 73 ∷ [])
    ∷ (70 ∷ 91 ∷ 67 ∷ 64 ∷ 93 ∷ 49 ∷ 40 ∷ 67 ∷ 108 ∷ 41 ∷ 67 ∷ 67 ∷ 49 ∷ []) ∷ []
unfolding atom joined alanine-atoms alanine-bonds halides-atoms halides-bonds star-atoms star-bonds ring-atoms ring-bonds order bond_symbol turned run up_to oddly odd_pairs odd among symbols bare bytes_of selected_bytes targets first_target first_fitting reached_in hydrogens_of number touches bonds_from bonds_at turns turned_mark turn_marks share bond_sum forest_of renumbered unused write walk_rank decimal mark_bytes hydrogen_bytes size_bytes bracket_bytes without_brackets spelled_atom kind_bytes bridge_bytes rest_bytes tokens_bytes tokens written_rank marks_written text_of
marked-texts = refl
