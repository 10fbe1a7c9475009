use mathlib.Core.Path.{ap, ◌∙◌}
use Prim.Native.Nat.{ℕ}
use native.Mathlib.Omega.{arith}
use Rattle.table_graph.proofs.Sums.{row-cells}
use Rattle.same_drawing.specs.Drawing.{settled_order}
use Rattle.same_keys.proofs.Low.{low-more}
use Rattle.same_drawing.proofs.Matrix.{both-places, first-place, second-place, raised-low}
use Rattle.same_drawing.proofs.add_order.Goals as goal

pub raise-requires : goal.raise-requires
raise-requires c = let r = row-cells c.args.bonds.now c.args.k.0 c.get_bond-bond.result (c.get_bond-bond.ensures.value, c.get_bond-bond.ensures.bond_fits) c.requires.ends.few in
    let pe = c.number-first.ensures ∙ r.0 in
    let pf = c.number-second.ensures ∙ r.1 in
    let px = c.drawn_order-x.ensures ∙ ap (λ (z : ℕ). settled_order z c.args.chosen) (c.number.ensures ∙ r.2) in
    record { a_lt_max_same = (let f = first-place c.args.bonds.now c.args.k.0 c.args.chosen c.args.o.now pe pf px c.requires.ends in (f.0, f.1, omega (arith, f.2))); low = low-more c.requires.low (omega arith) }

pub raise-requires-2 : goal.raise-requires-2
raise-requires-2 c = let r = row-cells c.args.bonds.now c.args.k.0 c.get_bond-bond.result (c.get_bond-bond.ensures.value, c.get_bond-bond.ensures.bond_fits) c.requires.ends.few in
    let pe = c.number-first.ensures ∙ r.0 in
    let pf = c.number-second.ensures ∙ r.1 in
    let px = c.drawn_order-x.ensures ∙ ap (λ (z : ℕ). settled_order z c.args.chosen) (c.number.ensures ∙ r.2) in
    record { a_lt_max_same = (let f = second-place c.args.bonds.now c.args.k.0 c.args.chosen c.args.o.now pe pf px c.requires.ends in (f.0, f.1, omega (arith, f.2))); low = raised-low c.args.bonds.now c.args.k.0 c.args.chosen c.args.o.now pe pf px c.requires.low c.raise.ensures }

pub returns : goal.returns
returns c = let r = row-cells c.args.bonds.now c.args.k.0 c.get_bond-bond.result (c.get_bond-bond.ensures.value, c.get_bond-bond.ensures.bond_fits) c.requires.ends.few in
    let pe = c.number-first.ensures ∙ r.0 in
    let pf = c.number-second.ensures ∙ r.1 in
    let px = c.drawn_order-x.ensures ∙ ap (λ (z : ℕ). settled_order z c.args.chosen) (c.number.ensures ∙ r.2) in
    both-places c.args.bonds.now c.args.k.0 c.args.chosen c.args.o.now pe pf px c.raise.ensures c.raise-2.ensures
