-- Texts of 02's P8: the neighbours of the atom 1 of each, in the stored order and in that of the text, by computation. Assumes nothing.
use mathlib.Core.Path.{◌≡◌, refl}
use mathlib.Core.List.{List, [], ◌∷◌, map}
use Prim.Native.Nat.{ℕ, ◌*◌}
use lib.IntN.{pos}
use lib.ListN.{replicate}
use Rattle.kinds.specs.Kind.{order, symbol_kind, turned}
use Rattle.loops.specs.Loop.{each, run}
use Rattle.element.specs.Symbols.{among, listed, starts, same_bytes, symbols, letters, marks}
use Rattle.element.specs.Lookup.{index_from, number_of, selected_of, letter_of}
use Rattle.valence.specs.Valence.{targets, first_target, first_fitting, reached_in, hydrogens_of}
use Rattle.reading_grammar.specs.Grammar.{nonzero, digits, several, bond_symbols, signs}
use Rattle.reading_grammar.specs.Machine.{step, next, atom_or, bridge_or, closing, extending, charging, hydrating, marking, symbol_or}
use Rattle.reading_grammar.specs.Fold.{Reading, going, halted, feed, read}
use Rattle.parity.specs.Parity.{oddly, odd_pairs, odd}
use Rattle.table.specs.Limits.{max_atoms, max_bonds, atom_cells, bond_cells}
use Rattle.table.specs.Cells.{number, touches}
use Rattle.table.specs.Rows.{with_atom, with_bond}
use Rattle.table.specs.Orders.{bonds_from, bonds_at, turns, turned_mark, turn_marks}
use Rattle.table_graph.specs.Graph.{share, bond_sum}
use Rattle.reading_state.specs.State.{started, opened, closed, joined}
use Rattle.reading.specs.Memory.{Memory, begun, joins, joined_already, close_refusal}
use Rattle.reading.specs.Bracket.{symbolled}
use Rattle.reading.specs.Act.{atom_act, bridge_act, branch_act, mode_act, act}
use Rattle.reading.specs.Read.{hydrogenated, text_rank, atoms_of}
use Rattle.reading.specs.Conditions.{bytes_read}
use Rattle.reading_orders.specs.Neighbours.{stored_order, those, insert, sorted, preceding, bridges_here, children, text_order}

-- both orders at the atom 1, after the last byte
abbrev orders : Reading Memory → List (List ℕ)
orders (going σ μ) = stored_order (atoms_of μ) μ.bonds μ.st.bonds 1 ∷ text_order μ.st.keys (atoms_of μ) μ.bonds μ.st.bonds 1 ∷ []
orders (halted c p) = []

abbrev orders_of : List ℕ → List (List ℕ)
orders_of s = orders (bytes_read s (replicate (atom_cells * max_atoms) (pos 7)) (replicate (bond_cells * max_bonds) (pos 9)))

text-orders : map orders_of (
    (70 ∷ 91 ∷ 67 ∷ 64 ∷ 72 ∷ 93 ∷ 49 ∷ 50 ∷ 46 ∷ 66 ∷ 114 ∷ 50 ∷ 46 ∷ 67 ∷ 108 ∷ 49 ∷ []) ∷  -- F[C@H]12.Br2.Cl1
    (78 ∷ 91 ∷ 67 ∷ 64 ∷ 64 ∷ 72 ∷ 93 ∷ 40 ∷ 67 ∷ 41 ∷ 67 ∷ 40 ∷ 61 ∷ 79 ∷ 41 ∷ 79 ∷ []) ∷  -- N[C@@H](C)C(=O)O
    (70 ∷ 91 ∷ 67 ∷ 64 ∷ 93 ∷ 40 ∷ 67 ∷ 108 ∷ 41 ∷ 49 ∷ 66 ∷ 114 ∷ 46 ∷ 73 ∷ 49 ∷ []) ∷  -- F[C@](Cl)1Br.I1
    (70 ∷ 46 ∷ 91 ∷ 67 ∷ 64 ∷ 72 ∷ 93 ∷ 40 ∷ 67 ∷ 108 ∷ 41 ∷ 40 ∷ 66 ∷ 114 ∷ 41 ∷ 73 ∷ []) ∷  -- F.[C@H](Cl)(Br)I
    []) ≡ (
    ((0 ∷ 1 ∷ 2 ∷ 3 ∷ []) ∷ (1 ∷ 0 ∷ 3 ∷ 2 ∷ []) ∷ []) ∷  -- F[C@H]12.Br2.Cl1: two swaps
    ((0 ∷ 1 ∷ 2 ∷ 3 ∷ []) ∷ (1 ∷ 0 ∷ 2 ∷ 3 ∷ []) ∷ []) ∷  -- N[C@@H](C)C(=O)O: one swap
    ((1 ∷ 2 ∷ 3 ∷ 4 ∷ []) ∷ (1 ∷ 4 ∷ 2 ∷ 3 ∷ []) ∷ []) ∷  -- F[C@](Cl)1Br.I1: two swaps
    ((0 ∷ 1 ∷ 2 ∷ 3 ∷ []) ∷ (0 ∷ 1 ∷ 2 ∷ 3 ∷ []) ∷ []) ∷  -- F.[C@H](Cl)(Br)I: none
    [])
unfolding each run among listed starts same_bytes symbols letters marks index_from number_of selected_of letter_of order turned targets first_target first_fitting reached_in hydrogens_of nonzero digits several bond_symbols signs step next atom_or bridge_or closing extending charging hydrating marking symbol_or feed read number with_atom with_bond touches share bond_sum started opened closed joined symbol_kind begun joins joined_already close_refusal symbolled atom_act bridge_act branch_act mode_act act hydrogenated bonds_from bonds_at turns turned_mark turn_marks text_rank oddly odd_pairs odd stored_order those insert sorted preceding bridges_here children text_order
text-orders = refl
