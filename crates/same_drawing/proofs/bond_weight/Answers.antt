use mathlib.Core.Path.{ap, ◌∙◌}
use Prim.Native.Nat.{ℕ, ◌+◌, ◌*◌}
use lib.ListN.{get_or}
use Rattle.table_graph.proofs.Sums.{row-cells}
use Rattle.same_keys.specs.Keys.{mixed}
use Rattle.same_drawing.specs.Drawing.{settled_order, bond_weight}
use Rattle.same_drawing.proofs.Matrix.{first-place}
use Rattle.same_drawing.proofs.bond_weight.Goals as goal

pub pair_weight-requires : goal.pair_weight-requires
pair_weight-requires c = let r = row-cells c.args.bonds.now c.args.k.0 c.get_bond-bond.result (c.get_bond-bond.ensures.value, c.get_bond-bond.ensures.bond_fits) c.requires.ends.few in
    let pe = c.number-first.ensures ∙ r.0 in
    let pf = c.number-second.ensures ∙ r.1 in
    let px = c.drawn_order-x.ensures ∙ ap (λ (z : ℕ). settled_order z c.args.chosen) (c.number.ensures ∙ r.2) in
    record { a_lt_max_same = first-place c.args.bonds.now c.args.k.0 c.args.chosen c.args.keys.now pe pf px c.requires.ends; low = c.requires.low }

pub returns : goal.returns
unfolding bond_weight
returns c = let r = row-cells c.args.bonds.now c.args.k.0 c.get_bond-bond.result (c.get_bond-bond.ensures.value, c.get_bond-bond.ensures.bond_fits) c.requires.ends.few in
    let pe = c.number-first.ensures ∙ r.0 in
    let pf = c.number-second.ensures ∙ r.1 in
    let px = c.drawn_order-x.ensures ∙ ap (λ (z : ℕ). settled_order z c.args.chosen) (c.number.ensures ∙ r.2) in
    c.pair_weight.ensures ∙ (λ i. px i * mixed (get_or c.args.keys.now (pe i) 0 + get_or c.args.keys.now (pf i) 0))
