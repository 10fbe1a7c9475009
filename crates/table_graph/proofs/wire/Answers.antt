use Prim.Native.Nat.{◌*◌, ◌<◌}
use native.Mathlib.Omega.{arith}
use mathlib.Core.Path.{◌≡◌, refl, ◌∙◌}
use lib.ListN.{length, length-set}
use Rattle.loops.proofs.Loops.{edited-start, filled-step, filled-end, filled-part}
use Rattle.table.specs.Cells.{end1, end2}
use Rattle.table_graph.specs.Graph.{elided_flag}
use Rattle.kinds.proofs.Kind.{order_small}
use Rattle.table_graph.proofs.Graph.{byte_flag}
use Rattle.table_graph.proofs.Sums.{row-cells, sums_none, sums-bound, sums-length, second-bound, sums-step, two_ends}
use Rattle.table_graph.proofs.wire.Goals as goal

pub loop-i-init : goal.loop-i-init
loop-i-init c = (edited-start, edited-start, edited-start, c.requires.sums_value ∙ sums_none c.args.bonds.now (length c.args.sums.now))

pub overflow_cast-x : goal.overflow_cast-x
overflow_cast-x c = let k = c.number-kind in
    let o = c.order-x in
    omega (arith, o.ensures, order_small k.result)

pub overflow_cast-ea : goal.overflow_cast-ea
overflow_cast-ea c = let a = c.loop-i in
    let l = c.loop-i-test.true in
    let w = c.requires.wide in
    let bs = c.args.bonds.now in
    let r = row-cells bs a.i c.get_bond-row.result (c.get_bond-row.ensures.value, c.get_bond-row.ensures.bond_fits) (omega (arith, w.few, l)) in
    let e = c.number-first in
    omega (arith, e.ensures, r.0, w.order a.i l, w.second_fits a.i l)

pub overflow_cast-eb : goal.overflow_cast-eb
overflow_cast-eb c = let a = c.loop-i in
    let l = c.loop-i-test.true in
    let w = c.requires.wide in
    let bs = c.args.bonds.now in
    let r = row-cells bs a.i c.get_bond-row.result (c.get_bond-row.ensures.value, c.get_bond-row.ensures.bond_fits) (omega (arith, w.few, l)) in
    let f = c.number-second in
    omega (arith, f.ensures, r.1, w.second_fits a.i l)

pub offset_bounds-sums-first : goal.offset_bounds-sums-first
offset_bounds-sums-first c = let a = c.loop-i in
    let l = c.loop-i-test.true in
    let w = c.requires.wide in
    let bs = c.args.bonds.now in
    let r = row-cells bs a.i c.get_bond-row.result (c.get_bond-row.ensures.value, c.get_bond-row.ensures.bond_fits) (omega (arith, w.few, l)) in
    let e = c.number-first in
    omega (arith, e.ensures, r.0, w.order a.i l, w.second_summed a.i l, sums-length bs a.i _ a.invariant.3)

pub bounds-sums-first : goal.bounds-sums-first
bounds-sums-first c = let a = c.loop-i in
    let l = c.loop-i-test.true in
    let w = c.requires.wide in
    let bs = c.args.bonds.now in
    let r = row-cells bs a.i c.get_bond-row.result (c.get_bond-row.ensures.value, c.get_bond-row.ensures.bond_fits) (omega (arith, w.few, l)) in
    let e = c.number-first in
    omega (arith, e.ensures, r.0, w.order a.i l, w.second_summed a.i l, sums-length bs a.i _ a.invariant.3)

pub overflow_add-sums : goal.overflow_add-sums
overflow_add-sums c = let a = c.loop-i in
    let e = c.number-first in
    let k = c.number-kind in
    let o = c.order-x in
    omega (arith, sums-bound c.args.bonds.now a.i (length c.args.sums.now) a.invariant.3 e.result, o.ensures, order_small k.result)

pub bounds-sums-first-in-loop-i : goal.bounds-sums-first-in-loop-i
bounds-sums-first-in-loop-i c = let a = c.loop-i in
    let l = c.loop-i-test.true in
    let w = c.requires.wide in
    let bs = c.args.bonds.now in
    let r = row-cells bs a.i c.get_bond-row.result (c.get_bond-row.ensures.value, c.get_bond-row.ensures.bond_fits) (omega (arith, w.few, l)) in
    let e = c.number-first in
    omega (arith, e.ensures, r.0, w.order a.i l, w.second_summed a.i l, sums-length bs a.i _ a.invariant.3)

pub offset_bounds-sums-second : goal.offset_bounds-sums-second
offset_bounds-sums-second c = let a = c.loop-i in
    let l = c.loop-i-test.true in
    let w = c.requires.wide in
    let bs = c.args.bonds.now in
    let r = row-cells bs a.i c.get_bond-row.result (c.get_bond-row.ensures.value, c.get_bond-row.ensures.bond_fits) (omega (arith, w.few, l)) in
    let f = c.number-second in
    omega (arith, f.ensures, r.1, w.second_summed a.i l, sums-length bs a.i _ a.invariant.3)

pub bounds-sums-second : goal.bounds-sums-second
bounds-sums-second c = let a = c.loop-i in
    let l = c.loop-i-test.true in
    let w = c.requires.wide in
    let bs = c.args.bonds.now in
    let r = row-cells bs a.i c.get_bond-row.result (c.get_bond-row.ensures.value, c.get_bond-row.ensures.bond_fits) (omega (arith, w.few, l)) in
    let f = c.number-second in
    simp length-set (omega (arith, f.ensures, r.1, w.second_summed a.i l, sums-length bs a.i _ a.invariant.3))

pub overflow_add-sums-in-loop-i : goal.overflow_add-sums-in-loop-i
overflow_add-sums-in-loop-i c = let a = c.loop-i in
    let l = c.loop-i-test.true in
    let w = c.requires.wide in
    let bs = c.args.bonds.now in
    let r = row-cells bs a.i c.get_bond-row.result (c.get_bond-row.ensures.value, c.get_bond-row.ensures.bond_fits) (omega (arith, w.few, l)) in
    let e = c.number-first in
    let f = c.number-second in
    let k = c.number-kind in
    let o = c.order-x in
    let g : e.result < f.result = omega (arith, e.ensures, f.ensures, r.0, r.1, w.order a.i l) in
    omega (arith, second-bound a.sums e.result f.result o.result (3 * a.i) g (sums-bound bs a.i (length c.args.sums.now) a.invariant.3), o.ensures, order_small k.result)

pub bounds-sums-second-in-loop-i : goal.bounds-sums-second-in-loop-i
bounds-sums-second-in-loop-i c = let a = c.loop-i in
    let l = c.loop-i-test.true in
    let w = c.requires.wide in
    let bs = c.args.bonds.now in
    let r = row-cells bs a.i c.get_bond-row.result (c.get_bond-row.ensures.value, c.get_bond-row.ensures.bond_fits) (omega (arith, w.few, l)) in
    let f = c.number-second in
    simp length-set (omega (arith, f.ensures, r.1, w.second_summed a.i l, sums-length bs a.i _ a.invariant.3))

pub loop-i-preserved : goal.loop-i-preserved
loop-i-preserved c = let a = c.loop-i in
    let l = c.loop-i-test.true in
    let w = c.requires.wide in
    let bs = c.args.bonds.now in
    let r = row-cells bs a.i c.get_bond-row.result (c.get_bond-row.ensures.value, c.get_bond-row.ensures.bond_fits) (omega (arith, w.few, l)) in
    let e = c.number-first in
    let f = c.number-second in
    let k = c.number-kind in
    let o = c.order-x in
    let pe = e.ensures ∙ r.0 in
    let pf = f.ensures ∙ r.1 in
    let pk = k.ensures ∙ r.2 in
    let v = a.invariant in
    let ne : e.result ≡ f.result → ⊥ = λ q. omega (arith, pe, pf, w.order a.i l) in (
      filled-step v.0 _ l pe,
      filled-step v.1 _ l pf,
      filled-step v.2 _ l (c.from.ensures ∙ byte_flag _ ∙ simp pk),
      sums-step bs a.i _ v.3 (two_ends bs a.i _ pe pf pk o.ensures ne refl refl),
    )

pub shape_of-ea : goal.shape_of-ea
shape_of-ea c = c.loop-i.invariant.0.room

pub shape_of-eb : goal.shape_of-eb
shape_of-eb c = c.loop-i.invariant.1.room

pub shape_of-el : goal.shape_of-el
shape_of-el c = c.loop-i.invariant.2.room

pub shape_of-sums : goal.shape_of-sums
shape_of-sums c = sums-length c.args.bonds.now c.loop-i.i _ c.loop-i.invariant.3

pub returns : goal.returns
returns c = let v = c.loop-i.invariant in
    let q = c.loop-i-test.false in
    let bs = c.args.bonds.now in
    let d : c.loop-i.i ≡ c.args.m = omega arith in record {
      wired = record {
        first_part = filled-part (end1 bs) c.args.m c.args.ea.now (filled-end v.0 c.requires.wide.firsts q);
        second_part = filled-part (end2 bs) c.args.m c.args.eb.now (filled-end v.1 c.requires.wide.seconds q);
        elided_part = filled-part (elided_flag bs) c.args.m c.args.el.now (filled-end v.2 c.requires.wide.elided q);
      };
      sums_after = v.3 ∙ simp d;
    }
