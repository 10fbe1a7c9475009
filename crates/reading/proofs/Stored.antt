-- Texts of 02's P8: how reading each ends, and the mark that is stored for each atom, by computation. Assumes nothing.
use mathlib.Core.Path.{◌≡◌, refl}
use mathlib.Core.List.{List, [], ◌∷◌, map}
use Prim.Native.Nat.{ℕ, ◌*◌}
use lib.IntN.{pos}
use lib.ListN.{replicate}
use Rattle.kinds.specs.Kind.{order, symbol_kind, bond_symbol, mark_of, turned}
use Rattle.loops.specs.Loop.{each, how_many, run, up_to}
use Rattle.element.specs.Symbols.{among, listed, starts, same_bytes, symbols, letters, marks}
use Rattle.element.specs.Lookup.{index_from, number_of, selected_of, letter_of, bare, bytes_of, selected_bytes}
use Rattle.valence.specs.Valence.{targets, first_target, first_fitting, reached_in, hydrogens_of, shifted_target, delocalized}
use Rattle.reading_grammar.specs.Grammar.{nonzero, digits, several, bond_symbols, signs}
use Rattle.reading_grammar.specs.Machine.{step, next, accepting, resting, atom_or, bridge_or, closing, extending, charging, hydrating, marking, symbol_or}
use Rattle.reading_grammar.specs.Fold.{feed, read}
use Rattle.matching.specs.Enumeration.{rows, passing}
use Rattle.matching.specs.Graph.{is_matching, each_once, degree, chosen_induced}
use Rattle.parity.specs.Parity.{oddly, odd_pairs, odd}
use Rattle.table.specs.Limits.{max_atoms, max_bonds, atom_cells, bond_cells}
use Rattle.table.specs.Cells.{number, mark}
use Rattle.table.specs.Rows.{with_atom, with_bond}
use Rattle.table.specs.Valid.{enough}
use Rattle.table.specs.Cells.{touches}
use Rattle.table.specs.Marks.{side, side_count, double_count, none_crowded, none_stray}
use Rattle.table.specs.Sound.{bond_degree, none_loose, none_unfit, late_code}
use Rattle.table.specs.Orders.{bonds_from, bonds_at, turns, turned_mark, turn_marks}
use Rattle.table_graph.specs.Graph.{share, bond_sum, matchable}
use Rattle.reading_state.specs.State.{started, opened, closed, joined}
use Rattle.reading.specs.Memory.{begun, joins, joined_already, close_refusal}
use Rattle.reading.specs.Bracket.{symbolled}
use Rattle.reading.specs.Act.{atom_act, bridge_act, branch_act, mode_act, act}
use Rattle.reading.specs.Read.{ReadResult, hydrogenated, overfull_atoms, text_rank, leftmost, ended, read_from, read_of}

-- the code, the offset, and the marks of the atoms
abbrev view : ReadResult → List ℕ
view t = t.code ∷ t.offset ∷ up_to (mark t.atoms) 0 t.atom_count

abbrev stored : List ℕ → List ℕ
stored s = view (read_of s (replicate (atom_cells * max_atoms) (pos 7)) (replicate (bond_cells * max_bonds) (pos 9)))

stored-marks : map stored (
    (70 ∷ 91 ∷ 67 ∷ 64 ∷ 93 ∷ 40 ∷ 67 ∷ 108 ∷ 41 ∷ 49 ∷ 66 ∷ 114 ∷ 46 ∷ 73 ∷ 49 ∷ []) ∷  -- F[C@](Cl)1Br.I1
    (70 ∷ 46 ∷ 91 ∷ 67 ∷ 64 ∷ 72 ∷ 93 ∷ 40 ∷ 67 ∷ 108 ∷ 41 ∷ 40 ∷ 66 ∷ 114 ∷ 41 ∷ 73 ∷ []) ∷  -- F.[C@H](Cl)(Br)I
    (70 ∷ 91 ∷ 67 ∷ 64 ∷ 72 ∷ 93 ∷ 49 ∷ 50 ∷ 46 ∷ 67 ∷ 108 ∷ 49 ∷ 46 ∷ 66 ∷ 114 ∷ 50 ∷ []) ∷  -- F[C@H]12.Cl1.Br2
    (70 ∷ 91 ∷ 67 ∷ 64 ∷ 72 ∷ 93 ∷ 49 ∷ 50 ∷ 46 ∷ 66 ∷ 114 ∷ 50 ∷ 46 ∷ 67 ∷ 108 ∷ 49 ∷ []) ∷  -- F[C@H]12.Br2.Cl1
    (67 ∷ 91 ∷ 83 ∷ 64 ∷ 93 ∷ 40 ∷ 61 ∷ 79 ∷ 41 ∷ 40 ∷ 61 ∷ 79 ∷ 41 ∷ 67 ∷ []) ∷  -- C[S@](=O)(=O)C
    (67 ∷ 91 ∷ 83 ∷ 64 ∷ 93 ∷ 40 ∷ 61 ∷ 79 ∷ 41 ∷ 67 ∷ []) ∷  -- C[S@](=O)C
    (91 ∷ 67 ∷ 64 ∷ 72 ∷ 50 ∷ 93 ∷ 40 ∷ 70 ∷ 41 ∷ 67 ∷ 108 ∷ []) ∷  -- [C@H2](F)Cl
    (67 ∷ 47 ∷ 67 ∷ 46 ∷ 91 ∷ 67 ∷ 64 ∷ 93 ∷ []) ∷  -- C/C.[C@]
    (91 ∷ 67 ∷ 64 ∷ 93 ∷ 46 ∷ 99 ∷ 49 ∷ 99 ∷ 99 ∷ 99 ∷ 99 ∷ 49 ∷ []) ∷  -- [C@].c1cccc1
    (78 ∷ 91 ∷ 67 ∷ 64 ∷ 64 ∷ 72 ∷ 93 ∷ 40 ∷ 67 ∷ 41 ∷ 67 ∷ 40 ∷ 61 ∷ 79 ∷ 41 ∷ 79 ∷ []) ∷  -- N[C@@H](C)C(=O)O
    (91 ∷ 67 ∷ 64 ∷ 93 ∷ 40 ∷ 70 ∷ 41 ∷ 40 ∷ 67 ∷ 108 ∷ 41 ∷ 40 ∷ 66 ∷ 114 ∷ 41 ∷ 73 ∷ []) ∷  -- [C@](F)(Cl)(Br)I
    (70 ∷ 91 ∷ 67 ∷ 64 ∷ 72 ∷ 93 ∷ 49 ∷ 67 ∷ 108 ∷ 46 ∷ 66 ∷ 114 ∷ 49 ∷ []) ∷  -- F[C@H]1Cl.Br1
    []) ≡ (
    (0 ∷ 0 ∷ 0 ∷ 1 ∷ 0 ∷ 0 ∷ 0 ∷ []) ∷  -- F[C@](Cl)1Br.I1
    (0 ∷ 0 ∷ 0 ∷ 1 ∷ 0 ∷ 0 ∷ 0 ∷ []) ∷  -- F.[C@H](Cl)(Br)I
    (0 ∷ 0 ∷ 0 ∷ 2 ∷ 0 ∷ 0 ∷ []) ∷  -- F[C@H]12.Cl1.Br2
    (0 ∷ 0 ∷ 0 ∷ 1 ∷ 0 ∷ 0 ∷ []) ∷  -- F[C@H]12.Br2.Cl1
    (0 ∷ 0 ∷ 0 ∷ 1 ∷ 0 ∷ 0 ∷ 0 ∷ []) ∷  -- C[S@](=O)(=O)C
    (23 ∷ 0 ∷ []) ∷  -- C[S@](=O)C
    (23 ∷ 0 ∷ []) ∷  -- [C@H2](F)Cl
    (21 ∷ 0 ∷ []) ∷  -- C/C.[C@]
    (23 ∷ 0 ∷ []) ∷  -- [C@].c1cccc1
    (0 ∷ 0 ∷ 0 ∷ 1 ∷ 0 ∷ 0 ∷ 0 ∷ 0 ∷ []) ∷  -- N[C@@H](C)C(=O)O
    (0 ∷ 0 ∷ 1 ∷ 0 ∷ 0 ∷ 0 ∷ 0 ∷ []) ∷  -- [C@](F)(Cl)(Br)I
    (0 ∷ 0 ∷ 0 ∷ 1 ∷ 0 ∷ 0 ∷ []) ∷  -- F[C@H]1Cl.Br1
    [])
unfolding bond_degree none_loose none_unfit side side_count double_count none_crowded none_stray late_code each how_many run up_to among listed starts same_bytes symbols letters marks index_from number_of selected_of letter_of bare bytes_of selected_bytes order bond_symbol mark_of turned targets first_target first_fitting reached_in hydrogens_of shifted_target delocalized nonzero digits several bond_symbols signs step next accepting resting atom_or bridge_or closing extending charging hydrating marking symbol_or feed read rows passing is_matching each_once degree chosen_induced number with_atom with_bond enough touches share bond_sum started opened closed joined symbol_kind begun joins joined_already close_refusal symbolled atom_act bridge_act branch_act mode_act act hydrogenated overfull_atoms leftmost matchable ended read_from read_of bonds_from bonds_at turns turned_mark turn_marks text_rank oddly odd_pairs odd
stored-marks = refl
