use native.Mathlib.Omega.{arith}
use Prim.Native.Nat.{ℕ}
use lib.ListN.{length-replicate}
use Rattle.table_graph.proofs.Graph.{wide}
use Rattle.redrawing_check.proofs.Checking.{settled-by}
use Rattle.redrawing_check.proofs.settle.Goals as goal

pub wire-requires : goal.wire-requires
wire-requires g c = record { wide = wide c.requires.valid (omega (arith, length-replicate {A = ℕ})) (omega (arith, length-replicate {A = ℕ})) (omega (arith, length-replicate {A = ℕ})) (omega (arith, length-replicate {A = ℕ})); sums_value = simp length-replicate }

pub returns : goal.returns
returns g c = settled-by c.args.tables.atoms.now c.args.tables.bonds.now c.args.tables.n c.args.tables.m _ _ _ c.wire.ensures.sums_after (omega (arith, length-replicate {A = ℕ})) c.fill_flags.ensures c.fill_sums.ensures
