-- The texts that 01 marks with †, and those of 02's P1, P5 and P8, as one table under one theorem, by computation. Assumes nothing.
use mathlib.Core.Path.{◌≡◌, refl}
use mathlib.Core.List.{List, [], ◌∷◌, map}
use Prim.Native.Nat.{ℕ}
use lib.IntN.{pos, negsuc}
use Rattle.kinds.specs.Kind.{order, symbol_kind, bond_symbol, mark_of, turned}
use Rattle.loops.specs.Loop.{each, how_many, run, up_to}
use Rattle.element.specs.Symbols.{among, listed, starts, same_bytes, symbols, letters, marks}
use Rattle.element.specs.Lookup.{index_from, number_of, selected_of, letter_of, bare, bytes_of, selected_bytes}
use Rattle.valence.specs.Valence.{targets, first_target, first_fitting, reached_in, hydrogens_of, shifted_target, delocalized}
use Rattle.reading_grammar.specs.Grammar.{nonzero, digits, several, bond_symbols, signs}
use Rattle.reading_grammar.specs.Machine.{step, next, accepting, resting, atom_or, bridge_or, closing, extending, charging, hydrating, marking, symbol_or}
use Rattle.reading_grammar.specs.Fold.{feed, read}
use Rattle.matching.specs.Enumeration.{rows, passing}
use Rattle.matching.specs.Graph.{is_matching, each_once, degree, chosen_induced}
use Rattle.parity.specs.Parity.{oddly, odd_pairs, odd}
use Rattle.table.specs.Cells.{number, touches}
use Rattle.table.specs.Rows.{with_atom, with_bond}
use Rattle.table.specs.Valid.{enough}
use Rattle.table.specs.Marks.{side, side_count, double_count, none_crowded, none_stray}
use Rattle.table.specs.Sound.{bond_degree, none_loose, none_unfit, late_code}
use Rattle.table.specs.Orders.{bonds_from, bonds_at, turns, turned_mark, turn_marks}
use Rattle.table_graph.specs.Graph.{share, bond_sum, matchable}
use Rattle.reading_state.specs.State.{started, opened, closed, joined}
use Rattle.reading.specs.Memory.{begun, joins, joined_already, close_refusal}
use Rattle.reading.specs.Bracket.{symbolled}
use Rattle.reading.specs.Act.{atom_act, bridge_act, branch_act, mode_act, act}
use Rattle.reading.specs.Read.{hydrogenated, overfull_atoms, text_rank, leftmost, ended, read_from, read_of}
use Rattle.writing_walk.specs.Walk.{forest_of, renumbered, unused, write}
use Rattle.writing_walk.specs.Parents.{walk_rank}
use Rattle.writing.specs.Spell.{decimal, mark_bytes, hydrogen_bytes, size_bytes, bracket_bytes, without_brackets, spelled_atom, kind_bytes, bridge_bytes, rest_bytes, tokens_bytes}
use Rattle.writing.specs.Write.{tokens, written_rank, marks_written, text_of}
use Rattle.examples.specs.Said.{Said, said, accepted, refused}

-- each text, and what the definitions say of it: its code and offset, how many of its atoms are kept; its cells (element, selected, isotope, hydrogens, charge, extension, mark), its bonds, its matchings, its writing
pub texts : List (List ℕ)
texts =
    ([]) ∷  -- empty
    (67 ∷ []) ∷  -- C
    (67 ∷ 78 ∷ 40 ∷ 67 ∷ 41 ∷ 40 ∷ 67 ∷ 41 ∷ 67 ∷ []) ∷  -- CN(C)(C)C
    (91 ∷ 67 ∷ 93 ∷ []) ∷  -- [C]
    (99 ∷ 49 ∷ 99 ∷ 99 ∷ 99 ∷ 99 ∷ 99 ∷ 49 ∷ []) ∷  -- c1ccccc1
    (111 ∷ 49 ∷ 99 ∷ 99 ∷ 99 ∷ 99 ∷ 49 ∷ []) ∷  -- o1cccc1
    (99 ∷ 49 ∷ 99 ∷ 99 ∷ 91 ∷ 110 ∷ 72 ∷ 93 ∷ 99 ∷ 49 ∷ []) ∷  -- c1cc[nH]c1
    (99 ∷ 40 ∷ 99 ∷ 41 ∷ 40 ∷ 99 ∷ 41 ∷ 99 ∷ []) ∷  -- c(c)(c)c
    (99 ∷ 99 ∷ []) ∷  -- cc
    (99 ∷ 49 ∷ 99 ∷ 99 ∷ 49 ∷ 45 ∷ 99 ∷ 49 ∷ 99 ∷ 99 ∷ 49 ∷ []) ∷  -- c1cc1-c1cc1
    (67 ∷ 49 ∷ 49 ∷ []) ∷  -- C11
    (67 ∷ 61 ∷ 49 ∷ 67 ∷ 67 ∷ 35 ∷ 49 ∷ []) ∷  -- C=1CC#1
    (67 ∷ 49 ∷ 46 ∷ 67 ∷ 49 ∷ []) ∷  -- C1.C1
    (99 ∷ 49 ∷ 99 ∷ 99 ∷ 91 ∷ 110 ∷ 43 ∷ 93 ∷ 40 ∷ 91 ∷ 79 ∷ 45 ∷ 93 ∷ 41 ∷ 99 ∷ 99 ∷ 49 ∷ []) ∷  -- c1cc[n+]([O-])cc1
    (91 ∷ 99 ∷ 72 ∷ 45 ∷ 93 ∷ 49 ∷ 99 ∷ 99 ∷ 99 ∷ 99 ∷ 49 ∷ []) ∷  -- [cH-]1cccc1
    (91 ∷ 99 ∷ 45 ∷ 53 ∷ 93 ∷ 49 ∷ 99 ∷ 99 ∷ 99 ∷ 99 ∷ 49 ∷ []) ∷  -- [c-5]1cccc1
    (70 ∷ 47 ∷ 67 ∷ 61 ∷ 67 ∷ 47 ∷ 70 ∷ []) ∷  -- F/C=C/F
    (70 ∷ 47 ∷ 67 ∷ 61 ∷ 67 ∷ 92 ∷ 70 ∷ []) ∷  -- F/C=C\F
    (67 ∷ 47 ∷ 67 ∷ []) ∷  -- C/C
    (70 ∷ 47 ∷ 99 ∷ 49 ∷ 99 ∷ 99 ∷ 99 ∷ 99 ∷ 99 ∷ 49 ∷ []) ∷  -- F/c1ccccc1
    (79 ∷ 61 ∷ 67 ∷ 40 ∷ 47 ∷ 67 ∷ 61 ∷ 67 ∷ 47 ∷ 70 ∷ 41 ∷ 47 ∷ 67 ∷ 61 ∷ 67 ∷ 47 ∷ 70 ∷ []) ∷  -- O=C(/C=C/F)/C=C/F
    (70 ∷ 47 ∷ 83 ∷ 40 ∷ 61 ∷ 79 ∷ 41 ∷ 40 ∷ 61 ∷ 79 ∷ 41 ∷ 47 ∷ 70 ∷ []) ∷  -- F/S(=O)(=O)/F
    (70 ∷ 47 ∷ 83 ∷ 40 ∷ 61 ∷ 79 ∷ 41 ∷ 40 ∷ 61 ∷ 79 ∷ 41 ∷ 92 ∷ 70 ∷ []) ∷  -- F/S(=O)(=O)\F
    (70 ∷ 47 ∷ 49 ∷ 46 ∷ 67 ∷ 49 ∷ 61 ∷ 67 ∷ []) ∷  -- F/1.C1=C
    (70 ∷ 49 ∷ 46 ∷ 67 ∷ 92 ∷ 49 ∷ 61 ∷ 67 ∷ []) ∷  -- F1.C\1=C
    (70 ∷ 47 ∷ 49 ∷ 46 ∷ 67 ∷ 92 ∷ 49 ∷ 61 ∷ 67 ∷ []) ∷  -- F/1.C\1=C
    (67 ∷ 40 ∷ 61 ∷ 67 ∷ 67 ∷ 47 ∷ 49 ∷ 41 ∷ 49 ∷ []) ∷  -- C(=CC/1)1
    (67 ∷ 40 ∷ 61 ∷ 67 ∷ 67 ∷ 49 ∷ 41 ∷ 47 ∷ 49 ∷ []) ∷  -- C(=CC1)/1
    (70 ∷ 47 ∷ 49 ∷ 46 ∷ 67 ∷ 47 ∷ 49 ∷ 61 ∷ 67 ∷ []) ∷  -- F/1.C/1=C
    (70 ∷ 47 ∷ 49 ∷ 46 ∷ 67 ∷ 45 ∷ 49 ∷ 61 ∷ 67 ∷ []) ∷  -- F/1.C-1=C
    (70 ∷ 47 ∷ 46 ∷ 67 ∷ []) ∷  -- F/.C
    (70 ∷ 47 ∷ 67 ∷ 40 ∷ 92 ∷ 70 ∷ 41 ∷ 61 ∷ 67 ∷ 49 ∷ []) ∷  -- F/C(\F)=C1
    (67 ∷ 61 ∷ 67 ∷ 47 ∷ 99 ∷ 40 ∷ 92 ∷ 67 ∷ 61 ∷ 67 ∷ 41 ∷ 99 ∷ 67 ∷ []) ∷  -- C=C/c(\C=C)cC
    (78 ∷ 91 ∷ 67 ∷ 64 ∷ 64 ∷ 72 ∷ 93 ∷ 40 ∷ 67 ∷ 41 ∷ 67 ∷ 40 ∷ 61 ∷ 79 ∷ 41 ∷ 79 ∷ []) ∷  -- N[C@@H](C)C(=O)O
    (70 ∷ 91 ∷ 67 ∷ 64 ∷ 93 ∷ 40 ∷ 67 ∷ 108 ∷ 41 ∷ 49 ∷ 66 ∷ 114 ∷ 46 ∷ 73 ∷ 49 ∷ []) ∷  -- F[C@](Cl)1Br.I1
    (70 ∷ 46 ∷ 91 ∷ 67 ∷ 64 ∷ 72 ∷ 93 ∷ 40 ∷ 67 ∷ 108 ∷ 41 ∷ 40 ∷ 66 ∷ 114 ∷ 41 ∷ 73 ∷ []) ∷  -- F.[C@H](Cl)(Br)I
    (70 ∷ 91 ∷ 67 ∷ 64 ∷ 72 ∷ 93 ∷ 49 ∷ 50 ∷ 46 ∷ 67 ∷ 108 ∷ 49 ∷ 46 ∷ 66 ∷ 114 ∷ 50 ∷ []) ∷  -- F[C@H]12.Cl1.Br2
    (70 ∷ 91 ∷ 67 ∷ 64 ∷ 72 ∷ 93 ∷ 49 ∷ 50 ∷ 46 ∷ 66 ∷ 114 ∷ 50 ∷ 46 ∷ 67 ∷ 108 ∷ 49 ∷ []) ∷  -- F[C@H]12.Br2.Cl1
    (67 ∷ 91 ∷ 83 ∷ 64 ∷ 93 ∷ 40 ∷ 61 ∷ 79 ∷ 41 ∷ 67 ∷ []) ∷  -- C[S@](=O)C
    (91 ∷ 67 ∷ 64 ∷ 72 ∷ 50 ∷ 93 ∷ 40 ∷ 70 ∷ 41 ∷ 67 ∷ 108 ∷ []) ∷  -- [C@H2](F)Cl
    (67 ∷ 47 ∷ 67 ∷ 46 ∷ 91 ∷ 67 ∷ 64 ∷ 93 ∷ []) ∷  -- C/C.[C@]
    (91 ∷ 67 ∷ 64 ∷ 93 ∷ 46 ∷ 99 ∷ 49 ∷ 99 ∷ 99 ∷ 99 ∷ 99 ∷ 49 ∷ []) ∷  -- [C@].c1cccc1
    (91 ∷ 67 ∷ 64 ∷ 64 ∷ 64 ∷ 93 ∷ []) ∷  -- [C@@@]
    (91 ∷ 67 ∷ 64 ∷ 84 ∷ 72 ∷ 49 ∷ 93 ∷ []) ∷  -- [C@TH1]
    (91 ∷ 67 ∷ 72 ∷ 64 ∷ 93 ∷ []) ∷  -- [CH@]
    []

pub expected : List Said
expected =
    accepted 0 ([]) ([]) (([]) ∷ []) ([]) ∷  -- empty
    accepted 0 (pos 6 ∷ pos 0 ∷ pos 0 ∷ pos 4 ∷ pos 0 ∷ pos 0 ∷ pos 0 ∷ []) ([]) (([]) ∷ []) (67 ∷ []) ∷  -- C
    accepted 0 (pos 6 ∷ pos 0 ∷ pos 0 ∷ pos 3 ∷ pos 0 ∷ pos 0 ∷ pos 0 ∷ pos 7 ∷ pos 0 ∷ pos 0 ∷ pos 1 ∷ pos 0 ∷ pos 0 ∷ pos 0 ∷ pos 6 ∷ pos 0 ∷ pos 0 ∷ pos 3 ∷ pos 0 ∷ pos 0 ∷ pos 0 ∷ pos 6 ∷ pos 0 ∷ pos 0 ∷ pos 3 ∷ pos 0 ∷ pos 0 ∷ pos 0 ∷ pos 6 ∷ pos 0 ∷ pos 0 ∷ pos 3 ∷ pos 0 ∷ pos 0 ∷ pos 0 ∷ []) (pos 0 ∷ pos 1 ∷ pos 0 ∷ pos 1 ∷ pos 2 ∷ pos 0 ∷ pos 1 ∷ pos 3 ∷ pos 0 ∷ pos 1 ∷ pos 4 ∷ pos 0 ∷ []) ((0 ∷ 0 ∷ 0 ∷ 0 ∷ []) ∷ []) (67 ∷ 78 ∷ 40 ∷ 67 ∷ 41 ∷ 40 ∷ 67 ∷ 41 ∷ 67 ∷ []) ∷  -- CN(C)(C)C
    accepted 0 (pos 6 ∷ pos 0 ∷ pos 0 ∷ pos 0 ∷ pos 0 ∷ pos 0 ∷ pos 0 ∷ []) ([]) (([]) ∷ []) (91 ∷ 67 ∷ 93 ∷ []) ∷  -- [C]
    accepted 6 (pos 6 ∷ pos 1 ∷ pos 0 ∷ pos 1 ∷ pos 0 ∷ pos 0 ∷ pos 0 ∷ pos 6 ∷ pos 1 ∷ pos 0 ∷ pos 1 ∷ pos 0 ∷ pos 0 ∷ pos 0 ∷ pos 6 ∷ pos 1 ∷ pos 0 ∷ pos 1 ∷ pos 0 ∷ pos 0 ∷ pos 0 ∷ pos 6 ∷ pos 1 ∷ pos 0 ∷ pos 1 ∷ pos 0 ∷ pos 0 ∷ pos 0 ∷ pos 6 ∷ pos 1 ∷ pos 0 ∷ pos 1 ∷ pos 0 ∷ pos 0 ∷ pos 0 ∷ pos 6 ∷ pos 1 ∷ pos 0 ∷ pos 1 ∷ pos 0 ∷ pos 0 ∷ pos 0 ∷ []) (pos 0 ∷ pos 1 ∷ pos 0 ∷ pos 1 ∷ pos 2 ∷ pos 0 ∷ pos 2 ∷ pos 3 ∷ pos 0 ∷ pos 3 ∷ pos 4 ∷ pos 0 ∷ pos 4 ∷ pos 5 ∷ pos 0 ∷ pos 0 ∷ pos 5 ∷ pos 0 ∷ []) ((1 ∷ 0 ∷ 1 ∷ 0 ∷ 1 ∷ 0 ∷ []) ∷ (0 ∷ 1 ∷ 0 ∷ 1 ∷ 0 ∷ 1 ∷ []) ∷ []) (99 ∷ 49 ∷ 99 ∷ 99 ∷ 99 ∷ 99 ∷ 99 ∷ 49 ∷ []) ∷  -- c1ccccc1
    accepted 4 (pos 8 ∷ pos 1 ∷ pos 0 ∷ pos 0 ∷ pos 0 ∷ pos 0 ∷ pos 0 ∷ pos 6 ∷ pos 1 ∷ pos 0 ∷ pos 1 ∷ pos 0 ∷ pos 0 ∷ pos 0 ∷ pos 6 ∷ pos 1 ∷ pos 0 ∷ pos 1 ∷ pos 0 ∷ pos 0 ∷ pos 0 ∷ pos 6 ∷ pos 1 ∷ pos 0 ∷ pos 1 ∷ pos 0 ∷ pos 0 ∷ pos 0 ∷ pos 6 ∷ pos 1 ∷ pos 0 ∷ pos 1 ∷ pos 0 ∷ pos 0 ∷ pos 0 ∷ []) (pos 0 ∷ pos 1 ∷ pos 0 ∷ pos 1 ∷ pos 2 ∷ pos 0 ∷ pos 2 ∷ pos 3 ∷ pos 0 ∷ pos 3 ∷ pos 4 ∷ pos 0 ∷ pos 0 ∷ pos 4 ∷ pos 0 ∷ []) ((0 ∷ 1 ∷ 0 ∷ 1 ∷ 0 ∷ []) ∷ []) (111 ∷ 49 ∷ 99 ∷ 99 ∷ 99 ∷ 99 ∷ 49 ∷ []) ∷  -- o1cccc1
    accepted 4 (pos 6 ∷ pos 1 ∷ pos 0 ∷ pos 1 ∷ pos 0 ∷ pos 0 ∷ pos 0 ∷ pos 6 ∷ pos 1 ∷ pos 0 ∷ pos 1 ∷ pos 0 ∷ pos 0 ∷ pos 0 ∷ pos 6 ∷ pos 1 ∷ pos 0 ∷ pos 1 ∷ pos 0 ∷ pos 0 ∷ pos 0 ∷ pos 7 ∷ pos 1 ∷ pos 0 ∷ pos 1 ∷ pos 0 ∷ pos 0 ∷ pos 0 ∷ pos 6 ∷ pos 1 ∷ pos 0 ∷ pos 1 ∷ pos 0 ∷ pos 0 ∷ pos 0 ∷ []) (pos 0 ∷ pos 1 ∷ pos 0 ∷ pos 1 ∷ pos 2 ∷ pos 0 ∷ pos 2 ∷ pos 3 ∷ pos 0 ∷ pos 3 ∷ pos 4 ∷ pos 0 ∷ pos 0 ∷ pos 4 ∷ pos 0 ∷ []) ((0 ∷ 1 ∷ 0 ∷ 0 ∷ 1 ∷ []) ∷ []) (99 ∷ 49 ∷ 99 ∷ 99 ∷ 91 ∷ 110 ∷ 72 ∷ 93 ∷ 99 ∷ 49 ∷ []) ∷  -- c1cc[nH]c1
    refused 22 0 4 ∷  -- c(c)(c)c: 22, three selected atoms have one bond
    refused 22 0 2 ∷  -- cc
    refused 11 0 6 ∷  -- c1cc1-c1cc1: 11, though an even number of atoms is kept, six
    refused 7 2 0 ∷  -- C11
    refused 9 6 0 ∷  -- C=1CC#1
    accepted 0 (pos 6 ∷ pos 0 ∷ pos 0 ∷ pos 3 ∷ pos 0 ∷ pos 0 ∷ pos 0 ∷ pos 6 ∷ pos 0 ∷ pos 0 ∷ pos 3 ∷ pos 0 ∷ pos 0 ∷ pos 0 ∷ []) (pos 0 ∷ pos 1 ∷ pos 0 ∷ []) ((0 ∷ []) ∷ []) (67 ∷ 67 ∷ []) ∷  -- C1.C1
    accepted 6 (pos 6 ∷ pos 1 ∷ pos 0 ∷ pos 1 ∷ pos 0 ∷ pos 0 ∷ pos 0 ∷ pos 6 ∷ pos 1 ∷ pos 0 ∷ pos 1 ∷ pos 0 ∷ pos 0 ∷ pos 0 ∷ pos 6 ∷ pos 1 ∷ pos 0 ∷ pos 1 ∷ pos 0 ∷ pos 0 ∷ pos 0 ∷ pos 7 ∷ pos 1 ∷ pos 0 ∷ pos 0 ∷ pos 1 ∷ pos 0 ∷ pos 0 ∷ pos 8 ∷ pos 0 ∷ pos 0 ∷ pos 0 ∷ negsuc 0 ∷ pos 0 ∷ pos 0 ∷ pos 6 ∷ pos 1 ∷ pos 0 ∷ pos 1 ∷ pos 0 ∷ pos 0 ∷ pos 0 ∷ pos 6 ∷ pos 1 ∷ pos 0 ∷ pos 1 ∷ pos 0 ∷ pos 0 ∷ pos 0 ∷ []) (pos 0 ∷ pos 1 ∷ pos 0 ∷ pos 1 ∷ pos 2 ∷ pos 0 ∷ pos 2 ∷ pos 3 ∷ pos 0 ∷ pos 3 ∷ pos 4 ∷ pos 0 ∷ pos 3 ∷ pos 5 ∷ pos 0 ∷ pos 5 ∷ pos 6 ∷ pos 0 ∷ pos 0 ∷ pos 6 ∷ pos 0 ∷ []) ((1 ∷ 0 ∷ 1 ∷ 0 ∷ 0 ∷ 1 ∷ 0 ∷ []) ∷ (0 ∷ 1 ∷ 0 ∷ 0 ∷ 1 ∷ 0 ∷ 1 ∷ []) ∷ []) (99 ∷ 49 ∷ 99 ∷ 99 ∷ 91 ∷ 110 ∷ 43 ∷ 93 ∷ 40 ∷ 91 ∷ 79 ∷ 45 ∷ 93 ∷ 41 ∷ 99 ∷ 99 ∷ 49 ∷ []) ∷  -- c1cc[n+]([O-])cc1
    accepted 4 (pos 6 ∷ pos 1 ∷ pos 0 ∷ pos 1 ∷ negsuc 0 ∷ pos 0 ∷ pos 0 ∷ pos 6 ∷ pos 1 ∷ pos 0 ∷ pos 1 ∷ pos 0 ∷ pos 0 ∷ pos 0 ∷ pos 6 ∷ pos 1 ∷ pos 0 ∷ pos 1 ∷ pos 0 ∷ pos 0 ∷ pos 0 ∷ pos 6 ∷ pos 1 ∷ pos 0 ∷ pos 1 ∷ pos 0 ∷ pos 0 ∷ pos 0 ∷ pos 6 ∷ pos 1 ∷ pos 0 ∷ pos 1 ∷ pos 0 ∷ pos 0 ∷ pos 0 ∷ []) (pos 0 ∷ pos 1 ∷ pos 0 ∷ pos 1 ∷ pos 2 ∷ pos 0 ∷ pos 2 ∷ pos 3 ∷ pos 0 ∷ pos 3 ∷ pos 4 ∷ pos 0 ∷ pos 0 ∷ pos 4 ∷ pos 0 ∷ []) ((0 ∷ 1 ∷ 0 ∷ 1 ∷ 0 ∷ []) ∷ []) (91 ∷ 99 ∷ 72 ∷ 45 ∷ 93 ∷ 49 ∷ 99 ∷ 99 ∷ 99 ∷ 99 ∷ 49 ∷ []) ∷  -- [cH-]1cccc1
    accepted 4 (pos 6 ∷ pos 1 ∷ pos 0 ∷ pos 0 ∷ negsuc 4 ∷ pos 0 ∷ pos 0 ∷ pos 6 ∷ pos 1 ∷ pos 0 ∷ pos 1 ∷ pos 0 ∷ pos 0 ∷ pos 0 ∷ pos 6 ∷ pos 1 ∷ pos 0 ∷ pos 1 ∷ pos 0 ∷ pos 0 ∷ pos 0 ∷ pos 6 ∷ pos 1 ∷ pos 0 ∷ pos 1 ∷ pos 0 ∷ pos 0 ∷ pos 0 ∷ pos 6 ∷ pos 1 ∷ pos 0 ∷ pos 1 ∷ pos 0 ∷ pos 0 ∷ pos 0 ∷ []) (pos 0 ∷ pos 1 ∷ pos 0 ∷ pos 1 ∷ pos 2 ∷ pos 0 ∷ pos 2 ∷ pos 3 ∷ pos 0 ∷ pos 3 ∷ pos 4 ∷ pos 0 ∷ pos 0 ∷ pos 4 ∷ pos 0 ∷ []) ((0 ∷ 1 ∷ 0 ∷ 1 ∷ 0 ∷ []) ∷ []) (91 ∷ 99 ∷ 45 ∷ 53 ∷ 93 ∷ 49 ∷ 99 ∷ 99 ∷ 99 ∷ 99 ∷ 49 ∷ []) ∷  -- [c-5]1cccc1
    accepted 0 (pos 9 ∷ pos 0 ∷ pos 0 ∷ pos 0 ∷ pos 0 ∷ pos 0 ∷ pos 0 ∷ pos 6 ∷ pos 0 ∷ pos 0 ∷ pos 1 ∷ pos 0 ∷ pos 0 ∷ pos 0 ∷ pos 6 ∷ pos 0 ∷ pos 0 ∷ pos 1 ∷ pos 0 ∷ pos 0 ∷ pos 0 ∷ pos 9 ∷ pos 0 ∷ pos 0 ∷ pos 0 ∷ pos 0 ∷ pos 0 ∷ pos 0 ∷ []) (pos 0 ∷ pos 1 ∷ pos 4 ∷ pos 1 ∷ pos 2 ∷ pos 2 ∷ pos 2 ∷ pos 3 ∷ pos 4 ∷ []) ((0 ∷ 0 ∷ 0 ∷ []) ∷ []) (70 ∷ 47 ∷ 67 ∷ 61 ∷ 67 ∷ 47 ∷ 70 ∷ []) ∷  -- F/C=C/F
    accepted 0 (pos 9 ∷ pos 0 ∷ pos 0 ∷ pos 0 ∷ pos 0 ∷ pos 0 ∷ pos 0 ∷ pos 6 ∷ pos 0 ∷ pos 0 ∷ pos 1 ∷ pos 0 ∷ pos 0 ∷ pos 0 ∷ pos 6 ∷ pos 0 ∷ pos 0 ∷ pos 1 ∷ pos 0 ∷ pos 0 ∷ pos 0 ∷ pos 9 ∷ pos 0 ∷ pos 0 ∷ pos 0 ∷ pos 0 ∷ pos 0 ∷ pos 0 ∷ []) (pos 0 ∷ pos 1 ∷ pos 4 ∷ pos 1 ∷ pos 2 ∷ pos 2 ∷ pos 2 ∷ pos 3 ∷ pos 5 ∷ []) ((0 ∷ 0 ∷ 0 ∷ []) ∷ []) (70 ∷ 47 ∷ 67 ∷ 61 ∷ 67 ∷ 92 ∷ 70 ∷ []) ∷  -- F/C=C\F
    refused 21 0 0 ∷  -- C/C
    refused 21 0 6 ∷  -- F/c1ccccc1
    refused 20 0 0 ∷  -- O=C(/C=C/F)/C=C/F
    accepted 0 (pos 9 ∷ pos 0 ∷ pos 0 ∷ pos 0 ∷ pos 0 ∷ pos 0 ∷ pos 0 ∷ pos 16 ∷ pos 0 ∷ pos 0 ∷ pos 0 ∷ pos 0 ∷ pos 0 ∷ pos 0 ∷ pos 8 ∷ pos 0 ∷ pos 0 ∷ pos 0 ∷ pos 0 ∷ pos 0 ∷ pos 0 ∷ pos 8 ∷ pos 0 ∷ pos 0 ∷ pos 0 ∷ pos 0 ∷ pos 0 ∷ pos 0 ∷ pos 9 ∷ pos 0 ∷ pos 0 ∷ pos 0 ∷ pos 0 ∷ pos 0 ∷ pos 0 ∷ []) (pos 0 ∷ pos 1 ∷ pos 4 ∷ pos 1 ∷ pos 2 ∷ pos 2 ∷ pos 1 ∷ pos 3 ∷ pos 2 ∷ pos 1 ∷ pos 4 ∷ pos 4 ∷ []) ((0 ∷ 0 ∷ 0 ∷ 0 ∷ []) ∷ []) (70 ∷ 47 ∷ 83 ∷ 40 ∷ 61 ∷ 79 ∷ 41 ∷ 40 ∷ 61 ∷ 79 ∷ 41 ∷ 47 ∷ 70 ∷ []) ∷  -- F/S(=O)(=O)/F
    refused 20 0 0 ∷  -- F/S(=O)(=O)\F
    accepted 0 (pos 9 ∷ pos 0 ∷ pos 0 ∷ pos 0 ∷ pos 0 ∷ pos 0 ∷ pos 0 ∷ pos 6 ∷ pos 0 ∷ pos 0 ∷ pos 1 ∷ pos 0 ∷ pos 0 ∷ pos 0 ∷ pos 6 ∷ pos 0 ∷ pos 0 ∷ pos 2 ∷ pos 0 ∷ pos 0 ∷ pos 0 ∷ []) (pos 0 ∷ pos 1 ∷ pos 4 ∷ pos 1 ∷ pos 2 ∷ pos 2 ∷ []) ((0 ∷ 0 ∷ []) ∷ []) (70 ∷ 47 ∷ 67 ∷ 61 ∷ 67 ∷ []) ∷  -- F/1.C1=C
    accepted 0 (pos 9 ∷ pos 0 ∷ pos 0 ∷ pos 0 ∷ pos 0 ∷ pos 0 ∷ pos 0 ∷ pos 6 ∷ pos 0 ∷ pos 0 ∷ pos 1 ∷ pos 0 ∷ pos 0 ∷ pos 0 ∷ pos 6 ∷ pos 0 ∷ pos 0 ∷ pos 2 ∷ pos 0 ∷ pos 0 ∷ pos 0 ∷ []) (pos 0 ∷ pos 1 ∷ pos 4 ∷ pos 1 ∷ pos 2 ∷ pos 2 ∷ []) ((0 ∷ 0 ∷ []) ∷ []) (70 ∷ 47 ∷ 67 ∷ 61 ∷ 67 ∷ []) ∷  -- F1.C\1=C
    accepted 0 (pos 9 ∷ pos 0 ∷ pos 0 ∷ pos 0 ∷ pos 0 ∷ pos 0 ∷ pos 0 ∷ pos 6 ∷ pos 0 ∷ pos 0 ∷ pos 1 ∷ pos 0 ∷ pos 0 ∷ pos 0 ∷ pos 6 ∷ pos 0 ∷ pos 0 ∷ pos 2 ∷ pos 0 ∷ pos 0 ∷ pos 0 ∷ []) (pos 0 ∷ pos 1 ∷ pos 4 ∷ pos 1 ∷ pos 2 ∷ pos 2 ∷ []) ((0 ∷ 0 ∷ []) ∷ []) (70 ∷ 47 ∷ 67 ∷ 61 ∷ 67 ∷ []) ∷  -- F/1.C\1=C
    accepted 0 (pos 6 ∷ pos 0 ∷ pos 0 ∷ pos 1 ∷ pos 0 ∷ pos 0 ∷ pos 0 ∷ pos 6 ∷ pos 0 ∷ pos 0 ∷ pos 1 ∷ pos 0 ∷ pos 0 ∷ pos 0 ∷ pos 6 ∷ pos 0 ∷ pos 0 ∷ pos 2 ∷ pos 0 ∷ pos 0 ∷ pos 0 ∷ []) (pos 0 ∷ pos 1 ∷ pos 2 ∷ pos 1 ∷ pos 2 ∷ pos 0 ∷ pos 0 ∷ pos 2 ∷ pos 5 ∷ []) ((0 ∷ 0 ∷ 0 ∷ []) ∷ []) (67 ∷ 92 ∷ 49 ∷ 61 ∷ 67 ∷ 67 ∷ 49 ∷ []) ∷  -- C(=CC/1)1
    accepted 0 (pos 6 ∷ pos 0 ∷ pos 0 ∷ pos 1 ∷ pos 0 ∷ pos 0 ∷ pos 0 ∷ pos 6 ∷ pos 0 ∷ pos 0 ∷ pos 1 ∷ pos 0 ∷ pos 0 ∷ pos 0 ∷ pos 6 ∷ pos 0 ∷ pos 0 ∷ pos 2 ∷ pos 0 ∷ pos 0 ∷ pos 0 ∷ []) (pos 0 ∷ pos 1 ∷ pos 2 ∷ pos 1 ∷ pos 2 ∷ pos 0 ∷ pos 0 ∷ pos 2 ∷ pos 4 ∷ []) ((0 ∷ 0 ∷ 0 ∷ []) ∷ []) (67 ∷ 47 ∷ 49 ∷ 61 ∷ 67 ∷ 67 ∷ 49 ∷ []) ∷  -- C(=CC1)/1
    refused 9 6 0 ∷  -- F/1.C/1=C
    refused 9 6 0 ∷  -- F/1.C-1=C
    refused 3 2 0 ∷  -- F/.C
    refused 10 9 0 ∷  -- F/C(\F)=C1
    accepted 2 (pos 6 ∷ pos 0 ∷ pos 0 ∷ pos 2 ∷ pos 0 ∷ pos 0 ∷ pos 0 ∷ pos 6 ∷ pos 0 ∷ pos 0 ∷ pos 1 ∷ pos 0 ∷ pos 0 ∷ pos 0 ∷ pos 6 ∷ pos 1 ∷ pos 0 ∷ pos 0 ∷ pos 0 ∷ pos 0 ∷ pos 0 ∷ pos 6 ∷ pos 0 ∷ pos 0 ∷ pos 1 ∷ pos 0 ∷ pos 0 ∷ pos 0 ∷ pos 6 ∷ pos 0 ∷ pos 0 ∷ pos 2 ∷ pos 0 ∷ pos 0 ∷ pos 0 ∷ pos 6 ∷ pos 1 ∷ pos 0 ∷ pos 1 ∷ pos 0 ∷ pos 0 ∷ pos 0 ∷ pos 6 ∷ pos 0 ∷ pos 0 ∷ pos 3 ∷ pos 0 ∷ pos 0 ∷ pos 0 ∷ []) (pos 0 ∷ pos 1 ∷ pos 2 ∷ pos 1 ∷ pos 2 ∷ pos 4 ∷ pos 2 ∷ pos 3 ∷ pos 5 ∷ pos 3 ∷ pos 4 ∷ pos 2 ∷ pos 2 ∷ pos 5 ∷ pos 0 ∷ pos 5 ∷ pos 6 ∷ pos 0 ∷ []) ((0 ∷ 0 ∷ 0 ∷ 0 ∷ 1 ∷ 0 ∷ []) ∷ []) (67 ∷ 61 ∷ 67 ∷ 47 ∷ 99 ∷ 40 ∷ 92 ∷ 67 ∷ 61 ∷ 67 ∷ 41 ∷ 99 ∷ 67 ∷ []) ∷  -- C=C/c(\C=C)cC
    accepted 0 (pos 7 ∷ pos 0 ∷ pos 0 ∷ pos 2 ∷ pos 0 ∷ pos 0 ∷ pos 0 ∷ pos 6 ∷ pos 0 ∷ pos 0 ∷ pos 1 ∷ pos 0 ∷ pos 0 ∷ pos 1 ∷ pos 6 ∷ pos 0 ∷ pos 0 ∷ pos 3 ∷ pos 0 ∷ pos 0 ∷ pos 0 ∷ pos 6 ∷ pos 0 ∷ pos 0 ∷ pos 0 ∷ pos 0 ∷ pos 0 ∷ pos 0 ∷ pos 8 ∷ pos 0 ∷ pos 0 ∷ pos 0 ∷ pos 0 ∷ pos 0 ∷ pos 0 ∷ pos 8 ∷ pos 0 ∷ pos 0 ∷ pos 1 ∷ pos 0 ∷ pos 0 ∷ pos 0 ∷ []) (pos 0 ∷ pos 1 ∷ pos 0 ∷ pos 1 ∷ pos 2 ∷ pos 0 ∷ pos 1 ∷ pos 3 ∷ pos 0 ∷ pos 3 ∷ pos 4 ∷ pos 2 ∷ pos 3 ∷ pos 5 ∷ pos 0 ∷ []) ((0 ∷ 0 ∷ 0 ∷ 0 ∷ 0 ∷ []) ∷ []) (78 ∷ 91 ∷ 67 ∷ 64 ∷ 64 ∷ 72 ∷ 93 ∷ 40 ∷ 67 ∷ 41 ∷ 67 ∷ 40 ∷ 61 ∷ 79 ∷ 41 ∷ 79 ∷ []) ∷  -- N[C@@H](C)C(=O)O
    accepted 0 (pos 9 ∷ pos 0 ∷ pos 0 ∷ pos 0 ∷ pos 0 ∷ pos 0 ∷ pos 0 ∷ pos 6 ∷ pos 0 ∷ pos 0 ∷ pos 0 ∷ pos 0 ∷ pos 0 ∷ pos 1 ∷ pos 17 ∷ pos 0 ∷ pos 0 ∷ pos 0 ∷ pos 0 ∷ pos 0 ∷ pos 0 ∷ pos 35 ∷ pos 0 ∷ pos 0 ∷ pos 0 ∷ pos 0 ∷ pos 0 ∷ pos 0 ∷ pos 53 ∷ pos 0 ∷ pos 0 ∷ pos 0 ∷ pos 0 ∷ pos 0 ∷ pos 0 ∷ []) (pos 0 ∷ pos 1 ∷ pos 0 ∷ pos 1 ∷ pos 2 ∷ pos 0 ∷ pos 1 ∷ pos 3 ∷ pos 0 ∷ pos 1 ∷ pos 4 ∷ pos 0 ∷ []) ((0 ∷ 0 ∷ 0 ∷ 0 ∷ []) ∷ []) (70 ∷ 91 ∷ 67 ∷ 64 ∷ 93 ∷ 40 ∷ 67 ∷ 108 ∷ 41 ∷ 40 ∷ 66 ∷ 114 ∷ 41 ∷ 73 ∷ []) ∷  -- F[C@](Cl)1Br.I1
    accepted 0 (pos 9 ∷ pos 0 ∷ pos 0 ∷ pos 1 ∷ pos 0 ∷ pos 0 ∷ pos 0 ∷ pos 6 ∷ pos 0 ∷ pos 0 ∷ pos 1 ∷ pos 0 ∷ pos 0 ∷ pos 1 ∷ pos 17 ∷ pos 0 ∷ pos 0 ∷ pos 0 ∷ pos 0 ∷ pos 0 ∷ pos 0 ∷ pos 35 ∷ pos 0 ∷ pos 0 ∷ pos 0 ∷ pos 0 ∷ pos 0 ∷ pos 0 ∷ pos 53 ∷ pos 0 ∷ pos 0 ∷ pos 0 ∷ pos 0 ∷ pos 0 ∷ pos 0 ∷ []) (pos 1 ∷ pos 2 ∷ pos 0 ∷ pos 1 ∷ pos 3 ∷ pos 0 ∷ pos 1 ∷ pos 4 ∷ pos 0 ∷ []) ((0 ∷ 0 ∷ 0 ∷ []) ∷ []) (70 ∷ 46 ∷ 91 ∷ 67 ∷ 64 ∷ 72 ∷ 93 ∷ 40 ∷ 67 ∷ 108 ∷ 41 ∷ 40 ∷ 66 ∷ 114 ∷ 41 ∷ 73 ∷ []) ∷  -- F.[C@H](Cl)(Br)I
    accepted 0 (pos 9 ∷ pos 0 ∷ pos 0 ∷ pos 0 ∷ pos 0 ∷ pos 0 ∷ pos 0 ∷ pos 6 ∷ pos 0 ∷ pos 0 ∷ pos 1 ∷ pos 0 ∷ pos 0 ∷ pos 2 ∷ pos 17 ∷ pos 0 ∷ pos 0 ∷ pos 0 ∷ pos 0 ∷ pos 0 ∷ pos 0 ∷ pos 35 ∷ pos 0 ∷ pos 0 ∷ pos 0 ∷ pos 0 ∷ pos 0 ∷ pos 0 ∷ []) (pos 0 ∷ pos 1 ∷ pos 0 ∷ pos 1 ∷ pos 2 ∷ pos 0 ∷ pos 1 ∷ pos 3 ∷ pos 0 ∷ []) ((0 ∷ 0 ∷ 0 ∷ []) ∷ []) (70 ∷ 91 ∷ 67 ∷ 64 ∷ 72 ∷ 93 ∷ 40 ∷ 67 ∷ 108 ∷ 41 ∷ 66 ∷ 114 ∷ []) ∷  -- F[C@H]12.Cl1.Br2
    accepted 0 (pos 9 ∷ pos 0 ∷ pos 0 ∷ pos 0 ∷ pos 0 ∷ pos 0 ∷ pos 0 ∷ pos 6 ∷ pos 0 ∷ pos 0 ∷ pos 1 ∷ pos 0 ∷ pos 0 ∷ pos 1 ∷ pos 35 ∷ pos 0 ∷ pos 0 ∷ pos 0 ∷ pos 0 ∷ pos 0 ∷ pos 0 ∷ pos 17 ∷ pos 0 ∷ pos 0 ∷ pos 0 ∷ pos 0 ∷ pos 0 ∷ pos 0 ∷ []) (pos 0 ∷ pos 1 ∷ pos 0 ∷ pos 1 ∷ pos 2 ∷ pos 0 ∷ pos 1 ∷ pos 3 ∷ pos 0 ∷ []) ((0 ∷ 0 ∷ 0 ∷ []) ∷ []) (70 ∷ 91 ∷ 67 ∷ 64 ∷ 64 ∷ 72 ∷ 93 ∷ 40 ∷ 66 ∷ 114 ∷ 41 ∷ 67 ∷ 108 ∷ []) ∷  -- F[C@H]12.Br2.Cl1
    refused 23 0 0 ∷  -- C[S@](=O)C
    refused 23 0 0 ∷  -- [C@H2](F)Cl
    refused 21 0 0 ∷  -- C/C.[C@]
    refused 23 0 5 ∷  -- [C@].c1cccc1
    refused 3 4 0 ∷  -- [C@@@]
    refused 3 3 0 ∷  -- [C@TH1]
    refused 3 3 0 ∷  -- [CH@]
    []

pub marked-texts : map said texts ≡ expected
unfolding texts expected bond_degree none_loose none_unfit side side_count double_count none_crowded none_stray late_code each how_many run up_to among listed starts same_bytes symbols letters marks index_from number_of selected_of letter_of bare bytes_of selected_bytes order bond_symbol mark_of turned targets first_target first_fitting reached_in hydrogens_of shifted_target delocalized nonzero digits several bond_symbols signs step next accepting resting atom_or bridge_or closing extending charging hydrating marking symbol_or feed read rows passing is_matching each_once degree chosen_induced number with_atom with_bond enough touches share bond_sum started opened closed joined symbol_kind begun joins joined_already close_refusal symbolled atom_act bridge_act branch_act mode_act act hydrogenated overfull_atoms leftmost matchable ended read_from read_of bonds_from bonds_at turns turned_mark turn_marks text_rank oddly odd_pairs odd forest_of renumbered unused write walk_rank written_rank marks_written decimal mark_bytes hydrogen_bytes size_bytes bracket_bytes without_brackets spelled_atom kind_bytes bridge_bytes rest_bytes tokens_bytes tokens text_of
marked-texts = refl
