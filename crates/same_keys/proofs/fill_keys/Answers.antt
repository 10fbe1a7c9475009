use Prim.Native.Nat.{ℕ}
use native.Mathlib.Omega.{arith}
use mathlib.Core.Path.{refl, ap}
use lib.ListN.{length, length-replicate}
use Rattle.table_graph.proofs.Graph.{wide}
use Rattle.same_keys.specs.Keys.{prime}
use Rattle.same_keys.proofs.Low.{low-more, zeros-low}
use Rattle.same_keys.proofs.Filling.{half-small, inside, first-low, keys_filled}
use borrow.Author.Rules.{rules}
use Rattle.same_keys.proofs.fill_keys.Goals as goal

pub wire-requires : goal.wire-requires
wire-requires c = let v = c.requires.valid in
    record { wide = wide v (omega (arith, v.bonds_few, length-replicate {A = ℕ} 1100 0)) (omega (arith, v.bonds_few, length-replicate {A = ℕ} 1100 0)) (omega (arith, v.bonds_few, length-replicate {A = ℕ} 1100 0)) (omega (arith, c.requires.n_le_max_same.0, length-replicate {A = ℕ} 64 0)); sums_value = refl }

pub fill_first-requires : goal.fill_first-requires
fill_first-requires c = (c.requires.n_le_max_same.0, omega (arith, ap length c.requires.n_le_max_same.1, length-replicate {A = ℕ} 64 0))

pub refine-requires : goal.refine-requires
refine-requires c = let x = c.wire in
    let w = x.ensures in
    let v = c.requires.valid in
    record { inside = inside v w.wired (omega (arith, v.bonds_few, x.auto.ea)) (omega (arith, v.bonds_few, x.auto.eb)); n_in_bounds = (omega (arith, c.requires.n_le_max_same.0), search rules); r_bound = (half-small c.args.tables.n c.requires.n_le_max_same.0, zeros-low 64 prime, low-more (first-low v c.requires.n_le_max_same.0 w.wired _ w.sums_after c.fill_flags.ensures c.requires.n_le_max_same.1 c.fill_first.ensures) (omega arith)) }

pub returns : goal.returns
returns c = let w = c.wire.ensures in
    keys_filled c.requires.valid c.requires.n_le_max_same.0 w.wired _ w.sums_after c.fill_flags.ensures c.requires.n_le_max_same.1 c.fill_first.ensures c.refine.ensures
