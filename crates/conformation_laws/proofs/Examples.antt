-- A renumbering that turns a cell: F\1.Cl/C1=C/F, and Cl/1.F\C1=C/F, the same with its first two atoms exchanged; by computation. Assumes nothing.
use Prim.Native.Nat.{ℕ, zero, suc, ◌<◌}
use native.Mathlib.Omega.{arith}
use mathlib.Core.Path.{◌≡◌, refl, sym, ap, ◌∙◌}
use mathlib.Core.Bool.{true, false}
use mathlib.Core.List.{List, [], ◌∷◌, map}
use lib.IntN.{ℤ, pos}
use Rattle.kinds.specs.Kind.{order, symbol_kind, bond_symbol, mark_of, turned}
use Rattle.loops.specs.Loop.{each, how_many, run, up_to}
use Rattle.element.specs.Symbols.{among, listed, starts, same_bytes, symbols, letters, marks}
use Rattle.element.specs.Lookup.{index_from, number_of, selected_of, letter_of, bare, bytes_of, selected_bytes}
use Rattle.valence.specs.Valence.{targets, first_target, first_fitting, reached_in, hydrogens_of, shifted_target, delocalized}
use Rattle.reading_grammar.specs.Grammar.{nonzero, digits, several, bond_symbols, signs}
use Rattle.reading_grammar.specs.Machine.{step, next, accepting, resting, atom_or, bridge_or, closing, extending, charging, hydrating, marking, symbol_or}
use Rattle.reading_grammar.specs.Fold.{feed, read}
use Rattle.matching.specs.Enumeration.{rows, passing}
use Rattle.matching.specs.Graph.{is_matching, each_once, degree, chosen_induced}
use Rattle.parity.specs.Parity.{oddly, odd_pairs, odd}
use Rattle.table.specs.Cells.{number, touches}
use Rattle.table.specs.Rows.{with_atom, with_bond}
use Rattle.table.specs.Valid.{enough}
use Rattle.table.specs.Marks.{side, side_count, double_count, none_crowded, none_stray}
use Rattle.table.specs.Sound.{bond_degree, none_loose, none_unfit, late_code}
use Rattle.table.specs.Orders.{bonds_from, bonds_at, turns, turned_mark, turn_marks}
use Rattle.table_graph.specs.Graph.{share, bond_sum, matchable}
use Rattle.conformation.specs.Sides.{lower, lowest_of, compared, side_of}
use Rattle.reading_state.specs.State.{started, opened, closed, joined}
use Rattle.reading.specs.Memory.{begun, joins, joined_already, close_refusal}
use Rattle.reading.specs.Bracket.{symbolled}
use Rattle.reading.specs.Act.{atom_act, bridge_act, branch_act, mode_act, act}
use Rattle.reading.specs.Read.{hydrogenated, overfull_atoms, text_rank, leftmost, ended, read_from, read_of}
use Rattle.examples.specs.Said.{said}
use Rattle.writing_walk.specs.Same.{nil, cons, swap}
use Rattle.roundtrip.specs.Claims.{numbered}
use Rattle.conformation_laws.specs.Claims.{Renumbers, swaps}

-- the two texts, and the bonds that are read of each
unfoldable pub texts : List (List ℕ)
texts = (70 ∷ 92 ∷ 49 ∷ 46 ∷ 67 ∷ 108 ∷ 47 ∷ 67 ∷ 49 ∷ 61 ∷ 67 ∷ 47 ∷ 70 ∷ []) ∷ (67 ∷ 108 ∷ 47 ∷ 49 ∷ 46 ∷ 70 ∷ 92 ∷ 67 ∷ 49 ∷ 61 ∷ 67 ∷ 47 ∷ 70 ∷ []) ∷ []

unfoldable pub old : List ℤ
old = pos 1 ∷ pos 2 ∷ pos 4 ∷ pos 0 ∷ pos 2 ∷ pos 5 ∷ pos 2 ∷ pos 3 ∷ pos 2 ∷ pos 3 ∷ pos 4 ∷ pos 4 ∷ []

unfoldable pub new : List ℤ
new = pos 1 ∷ pos 2 ∷ pos 5 ∷ pos 0 ∷ pos 2 ∷ pos 4 ∷ pos 2 ∷ pos 3 ∷ pos 2 ∷ pos 3 ∷ pos 4 ∷ pos 4 ∷ []

pub texts-read : map (λ t. (said t).bonds) texts ≡ old ∷ new ∷ []
unfolding texts old new bond_degree none_loose none_unfit side side_count double_count none_crowded none_stray late_code each how_many run up_to among listed starts same_bytes symbols letters marks index_from number_of selected_of letter_of bare bytes_of selected_bytes order bond_symbol mark_of turned targets first_target first_fitting reached_in hydrogens_of shifted_target delocalized nonzero digits several bond_symbols signs step next accepting resting atom_or bridge_or closing extending charging hydrating marking symbol_or feed read rows passing is_matching each_once degree chosen_induced number with_atom with_bond enough touches share bond_sum started opened closed joined symbol_kind begun joins joined_already close_refusal symbolled atom_act bridge_act branch_act mode_act act hydrogenated overfull_atoms leftmost matchable ended read_from read_of bonds_from bonds_at turns turned_mark turn_marks text_rank oddly odd_pairs odd
texts-read = refl

-- the rows of sides
pub old_row : up_to (side_of old 4) 0 4 ≡ 0 ∷ 0 ∷ 1 ∷ 0 ∷ []
unfolding old number up_to run side mark_of turned lower lowest_of compared side_of
old_row = refl

pub new_row : up_to (side_of new 4) 0 4 ≡ 0 ∷ 0 ∷ 2 ∷ 0 ∷ []
unfolding new number up_to run side mark_of turned lower lowest_of compared side_of
new_row = refl

-- the renumbering, which exchanges the first two atoms
abbrev exchange : List ℕ
exchange = 1 ∷ 0 ∷ 2 ∷ 3 ∷ 4 ∷ []

twice : (v : ℕ) → v < 5 → numbered exchange (numbered exchange v) ≡ v
twice zero l = refl
twice (suc zero) l = refl
twice (suc (suc zero)) l = refl
twice (suc (suc (suc zero))) l = refl
twice (suc (suc (suc (suc zero)))) l = refl
twice (suc (suc (suc (suc (suc v))))) l = absurd (omega arith)

pub new-renumbers : Renumbers 5 4 exchange old new
unfolding old new number turned up_to
new-renumbers = record { injective = λ v w l k e. sym (twice v l) ∙ ap (numbered exchange) e ∙ twice w k; permuted = swap (cons (cons nil)) }

-- it changes which marked neighbour is the lower one at the first end of the double bond, and not at the second
pub first-swaps : swaps exchange old 4 2 ≡ true
unfolding old number each side mark_of turned swaps
first-swaps = refl

pub second-stays : swaps exchange old 4 3 ≡ false
unfolding old number each side mark_of turned swaps
second-stays = refl
