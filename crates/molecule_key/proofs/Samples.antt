-- The keys of some texts, as one table under one theorem, by computation: a constant has the law of redrawings too. Assumes nothing.
use mathlib.Core.Path.{◌≡◌, refl}
use mathlib.Core.List.{List, [], ◌∷◌, map}
use Prim.Native.Nat.{ℕ, ◌*◌}
use lib.ListN.{replicate}
use lib.IntN.{pos}
use Rattle.kinds.specs.Kind.{order, symbol_kind, bond_symbol, mark_of, turned}
use Rattle.loops.specs.Loop.{each, how_many, run, up_to}
use Rattle.element.specs.Symbols.{among, listed, starts, same_bytes, symbols, letters, marks}
use Rattle.element.specs.Lookup.{index_from, number_of, selected_of, letter_of}
use Rattle.valence.specs.Valence.{targets, first_target, first_fitting, reached_in, hydrogens_of, shifted_target, delocalized}
use Rattle.reading_grammar.specs.Grammar.{nonzero, digits, several, bond_symbols, signs}
use Rattle.reading_grammar.specs.Machine.{step, next, accepting, resting, atom_or, bridge_or, closing, extending, charging, hydrating, marking, symbol_or}
use Rattle.reading_grammar.specs.Fold.{feed, read}
use Rattle.matching.specs.Enumeration.{rows, passing}
use Rattle.matching.specs.Graph.{is_matching, each_once, degree, chosen_induced}
use Rattle.parity.specs.Parity.{oddly, odd_pairs, odd}
use Rattle.table.specs.Limits.{max_atoms, max_bonds, atom_cells, bond_cells}
use Rattle.table.specs.Cells.{number, touches}
use Rattle.table.specs.Rows.{with_atom, with_bond}
use Rattle.table.specs.Valid.{enough}
use Rattle.table.specs.Marks.{side, side_count, double_count, none_crowded, none_stray}
use Rattle.table.specs.Sound.{bond_degree, none_loose, none_unfit, late_code}
use Rattle.table.specs.Orders.{bonds_from, bonds_at, turns, turned_mark, turn_marks}
use Rattle.table_graph.specs.Graph.{share, bond_sum, matchable}
use Rattle.reading_state.specs.State.{started, opened, closed, joined}
use Rattle.reading.specs.Memory.{begun, joins, joined_already, close_refusal}
use Rattle.reading.specs.Bracket.{symbolled}
use Rattle.reading.specs.Act.{atom_act, bridge_act, branch_act, mode_act, act}
use Rattle.reading.specs.Read.{ReadResult, hydrogenated, overfull_atoms, text_rank, leftmost, ended, read_from, read_of}
use Rattle.same_model.specs.Same.{Molecule, molecule, joins as Joins-Pair, order_between}
use Rattle.same_keys.specs.Keys.{mixed}
use Rattle.folding.specs.Folding.{bared_atoms, bare_bond, bared_bonds, neighbour, plain_row, plain_hydrogen, folds, fold_into, folded_to, goes, bond_stays, packed, merged, folded}
use Rattle.drawing_key.specs.Key.{cells_number, joined_sum, hashed, next_round, atom_keys, summed, key_of}

abbrev molecule_of : ReadResult → Molecule
molecule_of t = molecule t.atoms t.bonds t.atom_count t.bond_count

-- the key of what a text reads to, in zeroed tables of the lent lengths
abbrev pub text_key : List ℕ → ℕ
text_key s = key_of (folded (molecule_of (read_of s (replicate (atom_cells * max_atoms) (pos 0)) (replicate (bond_cells * max_bonds) (pos 0)))))

unfoldable pub texts : List (List ℕ)
texts =
    (67 ∷ []) ∷  -- C
    (91 ∷ 67 ∷ 72 ∷ 52 ∷ 58 ∷ 49 ∷ 93 ∷ []) ∷  -- [CH4:1]
    (91 ∷ 72 ∷ 93 ∷ 67 ∷ []) ∷  -- [H]C
    (91 ∷ 50 ∷ 72 ∷ 93 ∷ 67 ∷ []) ∷  -- [2H]C
    (67 ∷ 67 ∷ []) ∷  -- CC
    (67 ∷ 67 ∷ 79 ∷ []) ∷  -- CCO
    (99 ∷ 49 ∷ 99 ∷ 99 ∷ 99 ∷ 99 ∷ 99 ∷ 49 ∷ []) ∷  -- c1ccccc1
    (67 ∷ 61 ∷ 49 ∷ 67 ∷ 61 ∷ 67 ∷ 67 ∷ 61 ∷ 67 ∷ 67 ∷ 49 ∷ []) ∷  -- C=1C=CC=CC1
    (67 ∷ 67 ∷ 49 ∷ 61 ∷ 67 ∷ 40 ∷ 67 ∷ 41 ∷ 67 ∷ 61 ∷ 67 ∷ 67 ∷ 61 ∷ 67 ∷ 49 ∷ []) ∷  -- CC1=C(C)C=CC=C1
    (67 ∷ 67 ∷ 61 ∷ 49 ∷ 67 ∷ 40 ∷ 67 ∷ 41 ∷ 61 ∷ 67 ∷ 67 ∷ 61 ∷ 67 ∷ 67 ∷ 49 ∷ []) ∷  -- CC=1C(C)=CC=CC1
    (67 ∷ 99 ∷ 49 ∷ 99 ∷ 99 ∷ 99 ∷ 99 ∷ 99 ∷ 49 ∷ 67 ∷ []) ∷  -- Cc1ccccc1C
    []

unfoldable pub keys : List ℕ
keys =
    34477373992790025 ∷  -- C
    34477373992790025 ∷  -- [CH4:1]
    34477373992790025 ∷  -- [H]C
    8579043476804225390 ∷  -- [2H]C
    13728790174828409016 ∷  -- CC
    235204076836452222 ∷  -- CCO
    9656682526219244202 ∷  -- c1ccccc1
    9656682526219244202 ∷  -- C=1C=CC=CC1
    7027393778569951822 ∷  -- CC1=C(C)C=CC=C1
    7027393778569951822 ∷  -- CC=1C(C)=CC=CC1
    7027393778569951822 ∷  -- Cc1ccccc1C
    []

pub pinned-keys : map text_key texts ≡ keys
unfolding texts keys bond_degree none_loose none_unfit side side_count double_count none_crowded none_stray late_code each how_many run up_to among listed starts same_bytes symbols letters marks index_from number_of selected_of letter_of order bond_symbol mark_of turned targets first_target first_fitting reached_in hydrogens_of shifted_target delocalized nonzero digits several bond_symbols signs step next accepting resting atom_or bridge_or closing extending charging hydrating marking symbol_or feed read rows passing is_matching each_once degree chosen_induced number with_atom with_bond enough touches share bond_sum started opened closed joined symbol_kind begun joins joined_already close_refusal symbolled atom_act bridge_act branch_act mode_act act hydrogenated overfull_atoms leftmost matchable ended read_from read_of bonds_from bonds_at turns turned_mark turn_marks text_rank oddly odd_pairs odd merged bared_atoms bare_bond bared_bonds neighbour plain_row plain_hydrogen folds fold_into folded_to goes bond_stays packed Joins-Pair order_between mixed cells_number joined_sum hashed next_round atom_keys summed
pinned-keys = refl
