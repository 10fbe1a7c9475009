use Rattle.writing_bridges.proofs.BondArrays.{bag-grows, bag-room, marked_start}
use Rattle.writing_bridges.specs.Unused.{BondArrays, bond_arrays, in_walk}
use Rattle.writing_visit.specs.Wires.{wires}
use Rattle.loops.proofs.Loops.{ran-start, ran-step, ran-end}
use mathlib.Core.Path.{refl, ap, ◌∙◌}
use native.Mathlib.Omega.{arith}
use Rattle.writing_bridges.proofs.unused.unused.Goals as goal

pub loop-b-init : goal.loop-b-init
loop-b-init c = let p = c.requires in
    (ran-start, omega arith, refl, refl, refl, marked_start p.marks_value, refl)

pub add_unused-used-requires : goal.add_unused-used-requires
add_unused-used-requires c = let p = c.requires in
    let i = c.loop-b.invariant in
    let t = c.loop-b-test.true in
    record { bonds_fit = p.bonds_fit; numbered = p.numbered; bond_room = bag-room p.bond_room i.2 i.3 i.4; marked = i.5; b_lt_m = (t, omega (arith, i.1, t)); m_in_bounds = p.m_in_bounds; m_in_bounds_2 = (p.m_in_bounds_2.0, omega (arith, p.m_in_bounds_2.1, i.6)) }

pub loop-b-preserved : goal.loop-b-preserved
loop-b-preserved c = let a = c.args in
    let l = c.loop-b in
    let t = c.loop-b-test.true in
    let r = c.add_unused-used in
    let g = bag-grows a.trail.up.now (in_walk (wires a.wiring.first.now a.wiring.second.now a.wiring.kinds.now) a.n a.m l.b) (bond_arrays l.los l.his l.kinds l.used) in (
      ran-step l.invariant.0 _ t r.ensures.result_after,
      omega (arith, l.invariant.1, ap (λ (g : BondArrays). g.used) r.ensures.result_after, g),
      r.auto.los ∙ l.invariant.2,
      r.auto.his ∙ l.invariant.3,
      r.auto.kinds ∙ l.invariant.4,
      r.ensures.marked_2,
      r.auto.marks ∙ l.invariant.6,
    )

pub shape_of-los : goal.shape_of-los
shape_of-los c = c.loop-b.invariant.2

pub shape_of-his : goal.shape_of-his
shape_of-his c = c.loop-b.invariant.3

pub shape_of-kinds : goal.shape_of-kinds
shape_of-kinds c = c.loop-b.invariant.4

pub shape_of-marks : goal.shape_of-marks
shape_of-marks c = c.loop-b.invariant.6

pub returns : goal.returns
returns c = record { result_after = ran-end c.loop-b.invariant.0 c.loop-b-test.false; marked = c.loop-b.invariant.5 }
