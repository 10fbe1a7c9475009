-- The three drawings of P4 that show it is not transitive, as they are read: two of o-xylene with fixed double bonds, and its ring in selected letters; by computation. Assumes nothing.
use Prim.Native.Nat.{ℕ}
use mathlib.Core.Path.{◌≡◌, refl, ap}
use mathlib.Core.List.{List, [], ◌∷◌, ◌++◌}
use lib.ListN.{replicate}
use lib.IntN.{ℤ, pos}
use Rattle.kinds.specs.Kind.{order, symbol_kind, bond_symbol, mark_of, turned}
use Rattle.loops.specs.Loop.{each, how_many, run, up_to}
use Rattle.element.specs.Symbols.{among, listed, starts, same_bytes, symbols, letters, marks}
use Rattle.element.specs.Lookup.{index_from, number_of, selected_of, letter_of, bare, bytes_of, selected_bytes}
use Rattle.valence.specs.Valence.{targets, first_target, first_fitting, reached_in, hydrogens_of, shifted_target, delocalized}
use Rattle.reading_grammar.specs.Grammar.{nonzero, digits, several, bond_symbols, signs}
use Rattle.reading_grammar.specs.Machine.{step, next, accepting, resting, atom_or, bridge_or, closing, extending, charging, hydrating, marking, symbol_or}
use Rattle.reading_grammar.specs.Fold.{feed, read}
use Rattle.matching.specs.Enumeration.{rows, passing}
use Rattle.matching.specs.Graph.{is_matching, each_once, degree, chosen_induced}
use Rattle.parity.specs.Parity.{oddly, odd_pairs, odd}
use Rattle.table.specs.Orders.{bonds_from, bonds_at, turns, turned_mark, turn_marks}
use Rattle.table.specs.Rows.{with_atom, with_bond}
use Rattle.table.specs.Valid.{enough}
use Rattle.table.specs.Cells.{number, touches}
use Rattle.table.specs.Marks.{side, side_count, double_count, none_crowded, none_stray}
use Rattle.table.specs.Sound.{bond_degree, none_loose, none_unfit, late_code}
use Rattle.table_graph.specs.Graph.{share, bond_sum, matchable}
use Rattle.reading_state.specs.State.{started, opened, closed, joined}
use Rattle.reading.specs.Memory.{begun, joins, joined_already, close_refusal}
use Rattle.reading.specs.Bracket.{symbolled}
use Rattle.reading.specs.Act.{atom_act, bridge_act, branch_act, mode_act, act}
use Rattle.reading.specs.Read.{hydrogenated, overfull_atoms, text_rank, leftmost, ended, read_from, read_of}
use Rattle.examples.specs.Said.{atom_rubbish, bond_rubbish}
use Rattle.roundtrip.specs.Claims.{accepted}
use Rattle.same_model.specs.Same.{Molecule, molecule}
use Rattle.same_written.specs.Reading.{molecule_read, read_as}

-- CC1=C(C)C=CC=C1
unfoldable pub first_text : List ℕ
first_text = 67 ∷ 67 ∷ 49 ∷ 61 ∷ 67 ∷ 40 ∷ 67 ∷ 41 ∷ 67 ∷ 61 ∷ 67 ∷ 67 ∷ 61 ∷ 67 ∷ 49 ∷ []

unfoldable pub first_atoms : List ℤ
first_atoms = pos 6 ∷ pos 0 ∷ pos 0 ∷ pos 3 ∷ pos 0 ∷ pos 0 ∷ pos 0 ∷ pos 6 ∷ pos 0 ∷ pos 0 ∷ pos 0 ∷ pos 0 ∷ pos 0 ∷ pos 0 ∷ pos 6 ∷ pos 0 ∷ pos 0 ∷ pos 0 ∷ pos 0 ∷ pos 0 ∷ pos 0 ∷ pos 6 ∷ pos 0 ∷ pos 0 ∷ pos 3 ∷ pos 0 ∷ pos 0 ∷ pos 0 ∷ pos 6 ∷ pos 0 ∷ pos 0 ∷ pos 1 ∷ pos 0 ∷ pos 0 ∷ pos 0 ∷ pos 6 ∷ pos 0 ∷ pos 0 ∷ pos 1 ∷ pos 0 ∷ pos 0 ∷ pos 0 ∷ pos 6 ∷ pos 0 ∷ pos 0 ∷ pos 1 ∷ pos 0 ∷ pos 0 ∷ pos 0 ∷ pos 6 ∷ pos 0 ∷ pos 0 ∷ pos 1 ∷ pos 0 ∷ pos 0 ∷ pos 0 ∷ []

unfoldable pub first_bonds : List ℤ
first_bonds = pos 0 ∷ pos 1 ∷ pos 0 ∷ pos 1 ∷ pos 2 ∷ pos 2 ∷ pos 2 ∷ pos 3 ∷ pos 0 ∷ pos 2 ∷ pos 4 ∷ pos 0 ∷ pos 4 ∷ pos 5 ∷ pos 2 ∷ pos 5 ∷ pos 6 ∷ pos 0 ∷ pos 6 ∷ pos 7 ∷ pos 2 ∷ pos 1 ∷ pos 7 ∷ pos 0 ∷ []

-- CC=1C(C)=CC=CC1
unfoldable pub second_text : List ℕ
second_text = 67 ∷ 67 ∷ 61 ∷ 49 ∷ 67 ∷ 40 ∷ 67 ∷ 41 ∷ 61 ∷ 67 ∷ 67 ∷ 61 ∷ 67 ∷ 67 ∷ 49 ∷ []

unfoldable pub second_atoms : List ℤ
second_atoms = pos 6 ∷ pos 0 ∷ pos 0 ∷ pos 3 ∷ pos 0 ∷ pos 0 ∷ pos 0 ∷ pos 6 ∷ pos 0 ∷ pos 0 ∷ pos 0 ∷ pos 0 ∷ pos 0 ∷ pos 0 ∷ pos 6 ∷ pos 0 ∷ pos 0 ∷ pos 0 ∷ pos 0 ∷ pos 0 ∷ pos 0 ∷ pos 6 ∷ pos 0 ∷ pos 0 ∷ pos 3 ∷ pos 0 ∷ pos 0 ∷ pos 0 ∷ pos 6 ∷ pos 0 ∷ pos 0 ∷ pos 1 ∷ pos 0 ∷ pos 0 ∷ pos 0 ∷ pos 6 ∷ pos 0 ∷ pos 0 ∷ pos 1 ∷ pos 0 ∷ pos 0 ∷ pos 0 ∷ pos 6 ∷ pos 0 ∷ pos 0 ∷ pos 1 ∷ pos 0 ∷ pos 0 ∷ pos 0 ∷ pos 6 ∷ pos 0 ∷ pos 0 ∷ pos 1 ∷ pos 0 ∷ pos 0 ∷ pos 0 ∷ []

unfoldable pub second_bonds : List ℤ
second_bonds = pos 0 ∷ pos 1 ∷ pos 0 ∷ pos 1 ∷ pos 2 ∷ pos 0 ∷ pos 2 ∷ pos 3 ∷ pos 0 ∷ pos 2 ∷ pos 4 ∷ pos 2 ∷ pos 4 ∷ pos 5 ∷ pos 0 ∷ pos 5 ∷ pos 6 ∷ pos 2 ∷ pos 6 ∷ pos 7 ∷ pos 0 ∷ pos 1 ∷ pos 7 ∷ pos 2 ∷ []

-- Cc1c(C)cccc1
unfoldable pub ring_text : List ℕ
ring_text = 67 ∷ 99 ∷ 49 ∷ 99 ∷ 40 ∷ 67 ∷ 41 ∷ 99 ∷ 99 ∷ 99 ∷ 99 ∷ 49 ∷ []

unfoldable pub ring_atoms : List ℤ
ring_atoms = pos 6 ∷ pos 0 ∷ pos 0 ∷ pos 3 ∷ pos 0 ∷ pos 0 ∷ pos 0 ∷ pos 6 ∷ pos 1 ∷ pos 0 ∷ pos 0 ∷ pos 0 ∷ pos 0 ∷ pos 0 ∷ pos 6 ∷ pos 1 ∷ pos 0 ∷ pos 0 ∷ pos 0 ∷ pos 0 ∷ pos 0 ∷ pos 6 ∷ pos 0 ∷ pos 0 ∷ pos 3 ∷ pos 0 ∷ pos 0 ∷ pos 0 ∷ pos 6 ∷ pos 1 ∷ pos 0 ∷ pos 1 ∷ pos 0 ∷ pos 0 ∷ pos 0 ∷ pos 6 ∷ pos 1 ∷ pos 0 ∷ pos 1 ∷ pos 0 ∷ pos 0 ∷ pos 0 ∷ pos 6 ∷ pos 1 ∷ pos 0 ∷ pos 1 ∷ pos 0 ∷ pos 0 ∷ pos 0 ∷ pos 6 ∷ pos 1 ∷ pos 0 ∷ pos 1 ∷ pos 0 ∷ pos 0 ∷ pos 0 ∷ []

unfoldable pub ring_bonds : List ℤ
ring_bonds = pos 0 ∷ pos 1 ∷ pos 0 ∷ pos 1 ∷ pos 2 ∷ pos 0 ∷ pos 2 ∷ pos 3 ∷ pos 0 ∷ pos 2 ∷ pos 4 ∷ pos 0 ∷ pos 4 ∷ pos 5 ∷ pos 0 ∷ pos 5 ∷ pos 6 ∷ pos 0 ∷ pos 6 ∷ pos 7 ∷ pos 0 ∷ pos 1 ∷ pos 7 ∷ pos 0 ∷ []

-- the tables that are read into, of the lent lengths: the molecule's cells, and 0 after them
abbrev pub lent_atoms : List ℤ → List ℤ
lent_atoms t = t ++ replicate 6944 (pos 0)

abbrev pub lent_bonds : List ℤ → List ℤ
lent_bonds t = t ++ replicate 3276 (pos 0)

abbrev pub Reads : List ℕ → List ℤ → List ℤ → Type 0
Reads s atoms bonds = read_of s atom_rubbish bond_rubbish ≡ accepted 8 8 0 (lent_atoms atoms) (lent_bonds bonds)

pub drawings-read : Reads first_text first_atoms first_bonds × (Reads second_text second_atoms second_bonds × Reads ring_text ring_atoms ring_bonds)
unfolding first_text first_atoms first_bonds second_text second_atoms second_bonds ring_text ring_atoms ring_bonds bond_degree none_loose none_unfit side side_count double_count none_crowded none_stray late_code each how_many run up_to among listed starts same_bytes symbols letters marks index_from number_of selected_of letter_of bare bytes_of selected_bytes order bond_symbol mark_of turned targets first_target first_fitting reached_in hydrogens_of shifted_target delocalized nonzero digits several bond_symbols signs step next accepting resting atom_or bridge_or closing extending charging hydrating marking symbol_or feed read is_matching each_once degree chosen_induced number with_atom with_bond enough touches share bond_sum started opened closed joined symbol_kind begun joins joined_already close_refusal symbolled atom_act bridge_act branch_act mode_act act hydrogenated overfull_atoms leftmost matchable ended read_from read_of bonds_from bonds_at turns turned_mark turn_marks text_rank oddly odd_pairs odd rows passing
drawings-read = (refl, (refl, refl))

-- the three molecules
unfoldable pub first : Molecule
first = molecule (lent_atoms first_atoms) (lent_bonds first_bonds) 8 8

unfoldable pub second : Molecule
second = molecule (lent_atoms second_atoms) (lent_bonds second_bonds) 8 8

unfoldable pub ring : Molecule
ring = molecule (lent_atoms ring_atoms) (lent_bonds ring_bonds) 8 8

pub first-is : read_as first_text ≡ first
unfolding first
first-is = ap molecule_read drawings-read.0

pub second_is : read_as second_text ≡ second
unfolding second
second_is = ap molecule_read drawings-read.1.0

pub ring-is : read_as ring_text ≡ ring
unfolding ring
ring-is = ap molecule_read drawings-read.1.1
