use Prim.Native.Nat.{◌*◌}
use native.Mathlib.Omega.{arith}
use mathlib.Core.Path.{refl}
use Rattle.table.specs.Limits.{max_bonds}
use Rattle.kinds.proofs.Kind.{order_small}
use Rattle.table_graph.proofs.Sums.{second-bound}
use Rattle.writing_visit.proofs.note_bond.Goals as goal

pub overflow_cast-order : goal.overflow_cast-order
overflow_cast-order c = omega (arith, c.order-order.ensures, order_small c.args.x.kind)

pub overflow_add-sums : goal.overflow_add-sums
overflow_add-sums c = let x = c.args.x in
    omega (arith, c.requires.by_index x.first.0, c.order-order.ensures, order_small x.kind)

pub overflow_add-sums-2 : goal.overflow_add-sums-2
overflow_add-sums-2 c = let x = c.args.x in
    let o = c.order-order in
    omega (arith, second-bound c.args.sums.now x.first.0 x.second.0 o.result (3 * max_bonds) c.requires.first_lt_second.0 c.requires.by_index, o.ensures, order_small x.kind)

pub returns : goal.returns
returns c = record { ea_after = refl; eb_after = refl; ks_after = refl; sums_after = rw c.order-order.ensures }
