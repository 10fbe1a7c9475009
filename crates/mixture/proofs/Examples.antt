-- `c1ccccc1.c1ccccc1`: its matchings by the statement, from those of `c1ccccc1` by computation. Assumes nothing.
use Prim.Native.Nat.{ℕ, ◌*◌}
use native.Mathlib.Omega.{arith}
use mathlib.Core.Path.{◌≡◌, refl, ◌∙◌}
use mathlib.Core.Bool.{true}
use mathlib.Core.List.{List, [], ◌∷◌}
use lib.ListN.{replicate}
use lib.IntN.{ℤ, pos}
use Rattle.kinds.specs.Kind.{order, symbol_kind, mark_of, turned}
use Rattle.loops.specs.Loop.{each, how_many, run, up_to}
use Rattle.element.specs.Symbols.{among, listed, starts, same_bytes, symbols, letters, marks}
use Rattle.element.specs.Lookup.{index_from, number_of, selected_of, letter_of}
use Rattle.valence.specs.Valence.{targets, first_target, first_fitting, reached_in, hydrogens_of, shifted_target, delocalized}
use Rattle.reading_grammar.specs.Grammar.{nonzero, digits, several, bond_symbols, signs}
use Rattle.reading_grammar.specs.Machine.{step, next, accepting, resting, atom_or, bridge_or, closing, extending, charging, hydrating, symbol_or}
use Rattle.reading_grammar.specs.Fold.{feed, read}
use Rattle.parity.specs.Parity.{oddly, odd_pairs, odd}
use Rattle.matching.specs.Enumeration.{rows, passing}
use Rattle.matching.specs.Graph.{is_matching, each_once, degree, chosen_induced}
use Rattle.table.specs.Limits.{max_atoms, max_bonds, atom_cells, bond_cells}
use Rattle.table.specs.Cells.{number, touches}
use Rattle.table.specs.Rows.{with_atom, with_bond}
use Rattle.table.specs.Valid.{enough}
use Rattle.table.specs.Marks.{side, side_count, double_count, none_crowded, none_stray}
use Rattle.table.specs.Sound.{bond_degree, none_loose, none_unfit, late_code}
use Rattle.table.specs.Orders.{bonds_from, bonds_at, turns, turned_mark, turn_marks}
use Rattle.table_graph.specs.Graph.{share, bond_sum, matchable}
use Rattle.reading_state.specs.State.{started, opened, closed, joined}
use Rattle.reading.specs.Memory.{begun, joins, joined_already, close_refusal}
use Rattle.reading.specs.Bracket.{symbolled}
use Rattle.reading.specs.Act.{atom_act, bridge_act, branch_act, mode_act, act}
use Rattle.reading.specs.Read.{hydrogenated, text_rank, overfull_atoms, leftmost, ended, read_from, read_of}
use Rattle.mixture_rows.specs.Rows.{followed}
use Rattle.mixture.specs.Mixed.{unmarked_text, joined_text}
use Rattle.mixture.specs.Claims.{matchings_read, Joinable}
use Rattle.mixture.proofs.Mixture.{mixture}

-- c1ccccc1
pub benzene : List ℕ
benzene = 99 ∷ 49 ∷ 99 ∷ 99 ∷ 99 ∷ 99 ∷ 99 ∷ 49 ∷ []

-- tables that hold rubbish
pub atom_rubbish : List ℤ
atom_rubbish = replicate (atom_cells * max_atoms) (pos 7)

pub bond_rubbish : List ℤ
bond_rubbish = replicate (bond_cells * max_bonds) (pos 9)

-- what is asked of a text, and its matchings
record Alone : Type 0 where
  pub accepted : (read_of benzene atom_rubbish bond_rubbish).code ≡ 0
  pub atoms : (read_of benzene atom_rubbish bond_rubbish).atom_count ≡ 6
  pub bonds : (read_of benzene atom_rubbish bond_rubbish).bond_count ≡ 6
  pub rows : matchings_read (read_of benzene atom_rubbish bond_rubbish) ≡ (1 ∷ 0 ∷ 1 ∷ 0 ∷ 1 ∷ 0 ∷ []) ∷ (0 ∷ 1 ∷ 0 ∷ 1 ∷ 0 ∷ 1 ∷ []) ∷ []

alone : Alone
unfolding benzene atom_rubbish bond_rubbish bond_degree none_loose none_unfit bonds_from bonds_at turns turned_mark turn_marks oddly odd_pairs odd text_rank side side_count double_count none_crowded none_stray late_code each how_many run up_to among listed starts same_bytes symbols letters marks index_from number_of selected_of letter_of order mark_of turned targets first_target first_fitting reached_in hydrogens_of shifted_target delocalized nonzero digits several bond_symbols signs step next accepting resting atom_or bridge_or closing extending charging hydrating symbol_or feed read rows passing is_matching each_once degree chosen_induced number with_atom with_bond enough touches share bond_sum started opened closed joined symbol_kind begun joins joined_already close_refusal symbolled atom_act bridge_act branch_act mode_act act hydrogenated overfull_atoms leftmost matchable ended read_from read_of
alone = record { accepted = refl; atoms = refl; bonds = refl; rows = refl }

long : enough atom_rubbish bond_rubbish ≡ true
unfolding enough atom_rubbish bond_rubbish
long = refl

plain : unmarked_text benzene ≡ true
unfolding benzene unmarked_text among
plain = refl

joinable : Joinable benzene benzene atom_rubbish bond_rubbish atom_rubbish bond_rubbish atom_rubbish bond_rubbish
unfolding benzene
joinable =
    let a = alone.atoms in
    let b = alone.bonds in
    record {
      first_some = omega arith;
      second_some = omega arith;
      first = alone.accepted;
      second = alone.accepted;
      bytes = omega arith;
      atoms = omega arith;
      bonds = omega arith;
      room = long;
    }

-- each of the two rows of the first, followed by each of the two of the second
pub two-benzenes : matchings_read (read_of (joined_text benzene benzene) atom_rubbish bond_rubbish)
    ≡ (1 ∷ 0 ∷ 1 ∷ 0 ∷ 1 ∷ 0 ∷ 1 ∷ 0 ∷ 1 ∷ 0 ∷ 1 ∷ 0 ∷ [])
    ∷ (1 ∷ 0 ∷ 1 ∷ 0 ∷ 1 ∷ 0 ∷ 0 ∷ 1 ∷ 0 ∷ 1 ∷ 0 ∷ 1 ∷ [])
    ∷ (0 ∷ 1 ∷ 0 ∷ 1 ∷ 0 ∷ 1 ∷ 1 ∷ 0 ∷ 1 ∷ 0 ∷ 1 ∷ 0 ∷ [])
    ∷ (0 ∷ 1 ∷ 0 ∷ 1 ∷ 0 ∷ 1 ∷ 0 ∷ 1 ∷ 0 ∷ 1 ∷ 0 ∷ 1 ∷ [])
    ∷ []
unfolding followed
two-benzenes = (mixture atom_rubbish bond_rubbish atom_rubbish bond_rubbish atom_rubbish bond_rubbish benzene benzene plain plain joinable).rows ∙ (λ v. followed (alone.rows v) (alone.rows v))
