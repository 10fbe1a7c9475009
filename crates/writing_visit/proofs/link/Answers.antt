use Rattle.writing_visit.proofs.Wires.{linked-lengths, linked-then, joined-start, joined_step, joined_end}
use native.Mathlib.Omega.{arith}
use Prim.Native.Nat.{◌-◌, ◌<◌}
use Rattle.writing_visit.proofs.link.Goals as goal

pub loop-b-init : goal.loop-b-init
loop-b-init c = (joined-start c.requires.head_value c.requires.link_room, linked-lengths)

pub read_bond-x-requires : goal.read_bond-x-requires
read_bond-x-requires c = let i = c.loop-b.invariant.0 in
    let fit = c.requires.bonds_fit in
    omega (arith, fit.bonds_few, i.within, c.loop-b-test.true)

pub link_bond-requires : goal.link_bond-requires
link_bond-requires c = let at = c.loop-b in
    let t = c.loop-b-test.true in
    let i = at.invariant.0 in
    let r = c.read_bond-x.ensures in
    let fit = c.requires.bonds_fit in
    let room = i.room in
    let h : at.b - 1 < c.args.m = omega (arith, t, i.within) in
    let w = fit.ends (at.b - 1) h in
    let f = room.heads (at.b - 1) h in
    record { b_lt_max_bonds = omega (arith, fit.bonds_few, h); b_in_bounds = (omega (arith, h, room.afters), omega (arith, h, room.behinds)); first_in_bounds = (omega (arith, w.0, f, r.first_value.0), omega (arith, f, r.first_value.1)) }

pub loop-b-preserved : goal.loop-b-preserved
loop-b-preserved c = let at = c.loop-b in
    let r = c.read_bond-x in
    let z = c.link_bond.ensures in
    let q = joined_step c.requires.bonds_fit at.invariant.0 c.loop-b-test.true r.result.first.0 r.result.second.0 r.ensures.first_value.0 r.ensures.first_value.1 _ _ _ z.head_after z.after_after z.behind_after in
    (q.0, linked-then at.invariant.1 q.1)

pub shape_of-head : goal.shape_of-head
shape_of-head c = c.loop-b.invariant.1.head

pub shape_of-after : goal.shape_of-after
shape_of-after c = c.loop-b.invariant.1.after

pub shape_of-behind : goal.shape_of-behind
shape_of-behind c = c.loop-b.invariant.1.behind

pub returns : goal.returns
returns c = joined_end c.loop-b.invariant.0 c.loop-b-test.false
