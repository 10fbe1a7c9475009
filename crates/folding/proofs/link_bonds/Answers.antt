use native.Mathlib.Omega.{arith}
use mathlib.Core.Path.{refl, ap, ◌∙◌}
use lib.ListN.{length, length-set}
use Rattle.kinds.specs.Kind.{order}
use Rattle.table_graph.proofs.Sums.{row-cells}
use Rattle.folding.proofs.Links.{links-start, links-length, links-step}
use Rattle.folding.proofs.link_bonds.Goals as goal

pub loop-i-init : goal.loop-i-init
loop-i-init c = (omega arith, links-start c.args.bonds.now c.requires.links_value)

pub offset_bounds-links-first : goal.offset_bounds-links-first
offset_bounds-links-first c = let r = row-cells c.args.bonds.now c.loop-i.i c.get_bond-row.result (c.get_bond-row.ensures.value, c.get_bond-row.ensures.bond_fits) (omega (arith, c.requires.ends.few, c.loop-i-test.true)) in
    omega (arith, c.number-first.ensures, r.0, c.requires.ends.order c.loop-i.i c.loop-i-test.true, c.requires.ends.second c.loop-i.i c.loop-i-test.true, links-length c.args.bonds.now c.loop-i.i _ c.loop-i.invariant.1)

pub bounds-links-first : goal.bounds-links-first
bounds-links-first c = let r = row-cells c.args.bonds.now c.loop-i.i c.get_bond-row.result (c.get_bond-row.ensures.value, c.get_bond-row.ensures.bond_fits) (omega (arith, c.requires.ends.few, c.loop-i-test.true)) in
    omega (arith, c.number-first.ensures, r.0, c.requires.ends.order c.loop-i.i c.loop-i-test.true, c.requires.ends.second c.loop-i.i c.loop-i-test.true, links-length c.args.bonds.now c.loop-i.i _ c.loop-i.invariant.1)

pub linked-requires : goal.linked-requires
linked-requires c = let r = row-cells c.args.bonds.now c.loop-i.i c.get_bond-row.result (c.get_bond-row.ensures.value, c.get_bond-row.ensures.bond_fits) (omega (arith, c.requires.ends.few, c.loop-i-test.true)) in
    omega (arith, c.number-second.ensures, r.1, c.requires.ends.limit c.loop-i.i c.loop-i-test.true)

pub offset_bounds-links-first-in-loop-i : goal.offset_bounds-links-first-in-loop-i
offset_bounds-links-first-in-loop-i c = let r = row-cells c.args.bonds.now c.loop-i.i c.get_bond-row.result (c.get_bond-row.ensures.value, c.get_bond-row.ensures.bond_fits) (omega (arith, c.requires.ends.few, c.loop-i-test.true)) in
    omega (arith, c.number-first.ensures, r.0, c.requires.ends.order c.loop-i.i c.loop-i-test.true, c.requires.ends.second c.loop-i.i c.loop-i-test.true, links-length c.args.bonds.now c.loop-i.i _ c.loop-i.invariant.1)

pub bounds-links-first-in-loop-i : goal.bounds-links-first-in-loop-i
bounds-links-first-in-loop-i c = let r = row-cells c.args.bonds.now c.loop-i.i c.get_bond-row.result (c.get_bond-row.ensures.value, c.get_bond-row.ensures.bond_fits) (omega (arith, c.requires.ends.few, c.loop-i-test.true)) in
    omega (arith, c.number-first.ensures, r.0, c.requires.ends.order c.loop-i.i c.loop-i-test.true, c.requires.ends.second c.loop-i.i c.loop-i-test.true, links-length c.args.bonds.now c.loop-i.i _ c.loop-i.invariant.1)

pub offset_bounds-links-second : goal.offset_bounds-links-second
offset_bounds-links-second c = let r = row-cells c.args.bonds.now c.loop-i.i c.get_bond-row.result (c.get_bond-row.ensures.value, c.get_bond-row.ensures.bond_fits) (omega (arith, c.requires.ends.few, c.loop-i-test.true)) in
    omega (arith, c.number-second.ensures, r.1, c.requires.ends.second c.loop-i.i c.loop-i-test.true, links-length c.args.bonds.now c.loop-i.i _ c.loop-i.invariant.1)

pub bounds-links-second : goal.bounds-links-second
bounds-links-second c = let r = row-cells c.args.bonds.now c.loop-i.i c.get_bond-row.result (c.get_bond-row.ensures.value, c.get_bond-row.ensures.bond_fits) (omega (arith, c.requires.ends.few, c.loop-i-test.true)) in
    simp length-set (omega (arith, c.number-second.ensures, r.1, c.requires.ends.second c.loop-i.i c.loop-i-test.true, links-length c.args.bonds.now c.loop-i.i _ c.loop-i.invariant.1))

pub linked-requires-in-loop-i : goal.linked-requires-in-loop-i
linked-requires-in-loop-i c = let r = row-cells c.args.bonds.now c.loop-i.i c.get_bond-row.result (c.get_bond-row.ensures.value, c.get_bond-row.ensures.bond_fits) (omega (arith, c.requires.ends.few, c.loop-i-test.true)) in
    omega (arith, c.number-first.ensures, r.0, c.requires.ends.order c.loop-i.i c.loop-i-test.true, c.requires.ends.limit c.loop-i.i c.loop-i-test.true)

pub offset_bounds-links-second-in-loop-i : goal.offset_bounds-links-second-in-loop-i
offset_bounds-links-second-in-loop-i c = let r = row-cells c.args.bonds.now c.loop-i.i c.get_bond-row.result (c.get_bond-row.ensures.value, c.get_bond-row.ensures.bond_fits) (omega (arith, c.requires.ends.few, c.loop-i-test.true)) in
    omega (arith, c.number-second.ensures, r.1, c.requires.ends.second c.loop-i.i c.loop-i-test.true, links-length c.args.bonds.now c.loop-i.i _ c.loop-i.invariant.1)

pub bounds-links-second-in-loop-i : goal.bounds-links-second-in-loop-i
bounds-links-second-in-loop-i c = let r = row-cells c.args.bonds.now c.loop-i.i c.get_bond-row.result (c.get_bond-row.ensures.value, c.get_bond-row.ensures.bond_fits) (omega (arith, c.requires.ends.few, c.loop-i-test.true)) in
    simp length-set (omega (arith, c.number-second.ensures, r.1, c.requires.ends.second c.loop-i.i c.loop-i-test.true, links-length c.args.bonds.now c.loop-i.i _ c.loop-i.invariant.1))

pub loop-i-preserved : goal.loop-i-preserved
loop-i-preserved c = let r = row-cells c.args.bonds.now c.loop-i.i c.get_bond-row.result (c.get_bond-row.ensures.value, c.get_bond-row.ensures.bond_fits) (omega (arith, c.requires.ends.few, c.loop-i-test.true)) in
    let pe = c.number-first.ensures ∙ r.0 in
    let pf = c.number-second.ensures ∙ r.1 in
    let po = c.order-order.ensures ∙ ap order (c.number.ensures ∙ r.2) in
    (omega arith, links-step c.args.bonds.now c.loop-i.i (length c.args.links.now) c.loop-i.invariant.1 pe pf po (omega (arith, pe, pf, c.requires.ends.order c.loop-i.i c.loop-i-test.true)) (omega (arith, pf, c.requires.ends.second c.loop-i.i c.loop-i-test.true)) c.linked.ensures refl c.linked-in-loop-i.ensures refl)
