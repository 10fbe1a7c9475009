use Rattle.writing_visit.proofs.Wires.{sums-bound, noted-lengths, noted-then, noted-start, noted_step, noted-end}
use Rattle.loops.specs.Loop.{up_to}
use Rattle.table_graph.specs.Graph.{bond_sum}
use mathlib.Core.Path.{ap, ◌∙◌}
use native.Mathlib.Omega.{arith}
use Prim.Native.Nat.{◌-◌, ◌<◌}
use Rattle.writing_visit.proofs.note.Goals as goal

pub loop-b-init : goal.loop-b-init
loop-b-init c = (noted-start c.requires.sums_value c.requires.note_room, noted-lengths)

pub read_bond-x-requires : goal.read_bond-x-requires
read_bond-x-requires c = let i = c.loop-b.invariant.0 in
    let fit = c.requires.bonds_fit in
    omega (arith, fit.bonds_few, i.within, c.loop-b-test.true)

pub note_bond-requires : goal.note_bond-requires
note_bond-requires c = let at = c.loop-b in
    let t = c.loop-b-test.true in
    let i = at.invariant.0 in
    let r = c.read_bond-x.ensures in
    let fit = c.requires.bonds_fit in
    let room = i.room in
    let h : at.b - 1 < c.args.m = omega (arith, t, i.within) in
    let w = fit.ends (at.b - 1) h in
    let q = fit.kinds (at.b - 1) h in
    record { b_in_bounds = (omega (arith, h, room.firsts), omega (arith, h, room.seconds)); b_in_bounds_2 = (omega (arith, h, room.kinds), omega (arith, room.summed (at.b - 1) h, r.first_value.1)); first_lt_second = (omega (arith, w.0), omega (arith, w.1)); kind_le_max_kind = omega arith; by_index = sums-bound c.args.bonds.now c.args.m at.b _ fit.bonds_few i.summed }

pub loop-b-preserved : goal.loop-b-preserved
loop-b-preserved c = let at = c.loop-b in
    let r = c.read_bond-x in
    let y = c.note_bond.ensures in
    let q = noted_step c.requires.bonds_fit at.invariant.0 c.loop-b-test.true r.result.first.0 r.result.second.0 r.result.kind r.ensures.first_value.0 r.ensures.first_value.1 r.ensures.kind_value _ _ _ _ y.ea_after y.eb_after y.ks_after y.sums_after in
    (q.0, noted-then at.invariant.1 q.1)

pub shape_of-ea : goal.shape_of-ea
shape_of-ea c = c.loop-b.invariant.1.firsts

pub shape_of-eb : goal.shape_of-eb
shape_of-eb c = c.loop-b.invariant.1.seconds

pub shape_of-ks : goal.shape_of-ks
shape_of-ks c = c.loop-b.invariant.1.kinds

pub shape_of-sums : goal.shape_of-sums
shape_of-sums c = c.loop-b.invariant.1.sums

pub returns : goal.returns
returns c = let v = c.loop-b.invariant in
    let r = noted-end v.0 c.loop-b-test.false in
    record { wired = r.0; sums_after = r.1 ∙ ap (up_to (bond_sum c.args.bonds.now c.args.m) 0) v.1.sums }
