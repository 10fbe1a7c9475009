use mathlib.Core.Path.{ap, ◌∙◌}
use Prim.Native.Nat.{ℕ}
use native.Mathlib.Omega.{arith}
use Rattle.table.specs.Cells.{kind}
use Rattle.table_graph.proofs.Sums.{row-cells}
use Rattle.same_keys.proofs.Low.{low-more}
use Rattle.same_part.specs.Value.{part_value}
use Rattle.same_part.proofs.Step.{value-small, both-places, first-place, second-place, raised-low}
use Rattle.same_part.proofs.add_part.Goals as goal

pub raise-requires : goal.raise-requires
raise-requires c = let r = row-cells c.args.bonds.now c.args.k.0 c.get_bond-bond.result (c.get_bond-bond.ensures.value, c.get_bond-bond.ensures.bond_fits) c.requires.ends.few in
    let pe = c.number-first.ensures ∙ r.0 in
    let pf = c.number-second.ensures ∙ r.1 in
    let px = c.part_order-x.ensures ∙ ap (λ (z : ℕ). part_value z c.args.opened c.args.chosen c.args.decided) (c.number.ensures ∙ r.2) in
    let l = value-small (kind c.args.bonds.now c.args.k.0) c.args.opened c.args.chosen c.args.decided in
    let v = part_value (kind c.args.bonds.now c.args.k.0) c.args.opened c.args.chosen c.args.decided in
    record { a_lt_max_same = first-place c.args.bonds.now c.args.k.0 v c.args.p.now pe pf px l c.requires.ends; low = low-more c.requires.low (omega arith) }

pub raise-requires-2 : goal.raise-requires-2
raise-requires-2 c = let r = row-cells c.args.bonds.now c.args.k.0 c.get_bond-bond.result (c.get_bond-bond.ensures.value, c.get_bond-bond.ensures.bond_fits) c.requires.ends.few in
    let pe = c.number-first.ensures ∙ r.0 in
    let pf = c.number-second.ensures ∙ r.1 in
    let px = c.part_order-x.ensures ∙ ap (λ (z : ℕ). part_value z c.args.opened c.args.chosen c.args.decided) (c.number.ensures ∙ r.2) in
    let l = value-small (kind c.args.bonds.now c.args.k.0) c.args.opened c.args.chosen c.args.decided in
    let v = part_value (kind c.args.bonds.now c.args.k.0) c.args.opened c.args.chosen c.args.decided in
    record { a_lt_max_same = second-place c.args.bonds.now c.args.k.0 v c.args.p.now pe pf px l c.requires.ends; low = raised-low c.args.bonds.now c.args.k.0 v c.args.p.now pe pf px l c.requires.low c.raise.ensures }

pub returns : goal.returns
returns c = let r = row-cells c.args.bonds.now c.args.k.0 c.get_bond-bond.result (c.get_bond-bond.ensures.value, c.get_bond-bond.ensures.bond_fits) c.requires.ends.few in
    let pe = c.number-first.ensures ∙ r.0 in
    let pf = c.number-second.ensures ∙ r.1 in
    let px = c.part_order-x.ensures ∙ ap (λ (z : ℕ). part_value z c.args.opened c.args.chosen c.args.decided) (c.number.ensures ∙ r.2) in
    let l = value-small (kind c.args.bonds.now c.args.k.0) c.args.opened c.args.chosen c.args.decided in
    let v = part_value (kind c.args.bonds.now c.args.k.0) c.args.opened c.args.chosen c.args.decided in
    both-places c.args.bonds.now c.args.k.0 v c.args.p.now pe pf px l c.raise.ensures c.raise-2.ensures
