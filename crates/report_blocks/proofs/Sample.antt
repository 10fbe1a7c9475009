-- 01's sample of the report, with 02's P10, by computation from the definitions. Assumes nothing.
use mathlib.Core.Path.{◌≡◌, refl}
use mathlib.Core.List.{List, [], ◌∷◌}
use Prim.Native.Nat.{ℕ}
use Rattle.kinds.specs.Kind.{order, symbol_kind, bond_symbol, mark_of, turned}
use Rattle.loops.specs.Loop.{each, how_many, run, up_to}
use Rattle.element.specs.Symbols.{among, listed, starts, same_bytes, symbols, letters, marks}
use Rattle.element.specs.Lookup.{index_from, number_of, selected_of, letter_of, bare, bytes_of, selected_bytes}
use Rattle.valence.specs.Valence.{targets, first_target, first_fitting, reached_in, hydrogens_of, shifted_target, delocalized}
use Rattle.reading_grammar.specs.Grammar.{nonzero, digits, several, bond_symbols, signs}
use Rattle.reading_grammar.specs.Machine.{step, next, accepting, resting, atom_or, bridge_or, closing, extending, charging, hydrating, marking, symbol_or}
use Rattle.reading_grammar.specs.Fold.{feed, read}
use Rattle.matching.specs.Enumeration.{rows, passing, is_row, row_call}
use Rattle.matching.specs.Graph.{is_matching, each_once, degree, chosen_induced}
use Rattle.table.specs.Cells.{number, in_range}
use Rattle.parity.specs.Parity.{oddly, odd_pairs, odd}
use Rattle.table.specs.Orders.{bonds_from, bonds_at, turns, turned_mark, turn_marks}
use Rattle.table.specs.Rows.{with_atom, with_bond}
use Rattle.table.specs.Edits.{doubled, doubled_bonds, unselected_atoms}
use Rattle.table.specs.Valid.{selected_ok, same_ends, fresh, distinct, atom_ok, bond_ok, valid, enough}
use Rattle.table.specs.Cells.{touches}
use Rattle.table.specs.Marks.{side, side_count, double_count, none_crowded, none_stray}
use Rattle.table.specs.Sound.{bond_degree, none_loose, none_unfit, late_code, sound}
use Rattle.table_graph.specs.Graph.{share, bond_sum, matchable}
use Rattle.reading_state.specs.State.{started, opened, closed, joined}
use Rattle.reading.specs.Memory.{begun, joins, joined_already, close_refusal}
use Rattle.reading.specs.Bracket.{symbolled}
use Rattle.reading.specs.Act.{atom_act, bridge_act, branch_act, mode_act, act}
use Rattle.reading.specs.Read.{hydrogenated, overfull_atoms, text_rank, leftmost, ended, read_from, read_of}
use Rattle.kekule.specs.Kekule.{call_on, kekulized_of}
use Rattle.writing_walk.specs.Walk.{forest_of, renumbered, unused, write}
use Rattle.writing_walk.specs.Parents.{walk_rank}
use Rattle.writing.specs.Spell.{decimal, mark_bytes, hydrogen_bytes, size_bytes, bracket_bytes, without_brackets, spelled_atom, kind_bytes, bridge_bytes, rest_bytes, tokens_bytes}
use Rattle.writing.specs.Write.{tokens, written_rank, marks_written, text_of, renumbering, few_bridges, write_valid, write_of}
use Rattle.report_lines.specs.Lines.{lines_after}
use Rattle.report_lines.specs.Format.{dec_by, dec_of, accepted_line, refused_line, totals_line}
use Rattle.standard.specs.Standard.{first_row, kekule_of, written_of}
use Rattle.report_entry.specs.Entry.{of_molecule, entry_of, line_of, accepted_of}
use Rattle.report_blocks.specs.Report.{report_from, report_of}

pub input : List ℕ
input =
    99 ∷ 49 ∷ 99 ∷ 99 ∷ 99 ∷ 99 ∷ 99 ∷ 49 ∷ 10 ∷  -- c1ccccc1
    67 ∷ 49 ∷ 49 ∷ 10 ∷  -- C11
    10 ∷  -- (empty)
    []

pub output : List ℕ
output =
    98 ∷ 97 ∷ 108 ∷ 115 ∷ 97 ∷ 32 ∷ 114 ∷ 101 ∷ 112 ∷ 111 ∷ 114 ∷ 116 ∷ 10 ∷  -- balsa report
    49 ∷ 58 ∷ 32 ∷ 48 ∷ 32 ∷ 54 ∷ 32 ∷ 54 ∷ 32 ∷ 48 ∷ 32 ∷ 49 ∷ 48 ∷ 49 ∷ 48 ∷ 49 ∷ 48 ∷ 32 ∷ 67 ∷ 49 ∷ 61 ∷ 67 ∷ 67 ∷ 61 ∷ 67 ∷ 67 ∷ 61 ∷ 67 ∷ 49 ∷ 10 ∷  -- 1: 0 6 6 0 101010 C1=CC=CC=C1
    50 ∷ 58 ∷ 32 ∷ 55 ∷ 32 ∷ 50 ∷ 10 ∷  -- 2: 7 2
    51 ∷ 58 ∷ 32 ∷ 48 ∷ 32 ∷ 48 ∷ 32 ∷ 48 ∷ 32 ∷ 48 ∷ 32 ∷ 45 ∷ 32 ∷ 45 ∷ 10 ∷  -- 3: 0 0 0 0 - -
    97 ∷ 99 ∷ 99 ∷ 101 ∷ 112 ∷ 116 ∷ 101 ∷ 100 ∷ 32 ∷ 50 ∷ 32 ∷ 114 ∷ 101 ∷ 102 ∷ 117 ∷ 115 ∷ 101 ∷ 100 ∷ 32 ∷ 49 ∷ 10 ∷  -- accepted 2 refused 1
    []

pub sample : report_of input ≡ output
unfolding input output bond_degree none_loose none_unfit side side_count double_count none_crowded none_stray late_code sound each how_many run up_to among listed starts same_bytes symbols letters marks index_from number_of selected_of letter_of bare bytes_of selected_bytes order bond_symbol mark_of turned targets first_target first_fitting reached_in hydrogens_of shifted_target delocalized nonzero digits several bond_symbols signs step next accepting resting atom_or bridge_or closing extending charging hydrating marking symbol_or feed read rows passing is_row row_call is_matching each_once degree chosen_induced number in_range with_atom with_bond doubled doubled_bonds unselected_atoms selected_ok same_ends fresh distinct atom_ok bond_ok valid enough touches share bond_sum started opened closed joined symbol_kind begun joins joined_already close_refusal symbolled atom_act bridge_act branch_act mode_act act hydrogenated overfull_atoms leftmost matchable ended read_from read_of bonds_from bonds_at turns turned_mark turn_marks text_rank oddly odd_pairs odd call_on kekulized_of forest_of renumbered unused write walk_rank written_rank marks_written decimal mark_bytes hydrogen_bytes size_bytes bracket_bytes without_brackets spelled_atom kind_bytes bridge_bytes rest_bytes tokens_bytes tokens text_of renumbering few_bridges write_valid write_of first_row kekule_of written_of of_molecule entry_of lines_after dec_by dec_of accepted_line refused_line totals_line line_of accepted_of report_from report_of
sample = refl
