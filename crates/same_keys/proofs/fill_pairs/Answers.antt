use Prim.Native.Nat.{ℕ}
use native.Mathlib.Omega.{arith}
use mathlib.Core.Path.{refl}
use lib.ListN.{length-replicate}
use Rattle.table_graph.proofs.Graph.{wide}
use Rattle.same_keys.proofs.Low.{low_same}
use Rattle.same_keys.proofs.Filling.{inside}
use Rattle.same_keys.proofs.Pairs.{keys-low, pairs-off, pairs-on}
use Rattle.same_keys.proofs.fill_pairs.Goals as goal

pub returns-then-not-on : goal.returns-then-not-on
returns-then-not-on c = pairs-off _ _ c.if-not-on.true c.requires.pairs_value

pub wire-requires : goal.wire-requires
wire-requires c = let v = c.requires.valid in
    record { wide = wide v (omega (arith, v.bonds_few, length-replicate {A = ℕ} 1100 0)) (omega (arith, v.bonds_few, length-replicate {A = ℕ} 1100 0)) (omega (arith, v.bonds_few, length-replicate {A = ℕ} 1100 0)) (omega (arith, c.requires.n_le_max_same.0, length-replicate {A = ℕ} 64 0)); sums_value = refl }

pub pair_rows-requires : goal.pair_rows-requires
pair_rows-requires c = record { inside = let x = c.wire in inside c.requires.valid x.ensures.wired (omega (arith, c.requires.valid.bonds_few, x.auto.ea)) (omega (arith, c.requires.valid.bonds_few, x.auto.eb)); n_le_max_same = (c.requires.n_le_max_same.0, low_same c.requires.n_le_max_same.1 (keys-low _ c.requires.valid c.requires.n_le_max_same.0)) }

pub returns : goal.returns
returns c = pairs-on _ _ c.if-not-on.false c.requires.valid c.requires.n_le_max_same.0 c.wire.ensures.wired c.requires.pairs_value c.pair_rows.ensures
