use Rattle.writing_visit.proofs.Lists.{fit_wide}
use Rattle.writing_visit.proofs.Wires.{fit_same, linked-same, wired-at, walked-table, link-room, places-kept}
use Rattle.writing_visit.proofs.Laws.{kept_same, kept_then, room-kept}
use Rattle.writing_visit.proofs.Roots.{sofar-start, sofar-step, sofar-end}
use mathlib.Core.Path.{refl}
use Rattle.writing_visit.proofs.walk_lists.Goals as goal

pub link-requires : goal.link-requires
link-requires c = let p = c.requires in
    record { bonds_fit = fit_wide p.bonds_fit; head_value = p.head_value; link_room = link-room p.bonds_fit p.places }

pub loop-a-init : goal.loop-a-init
loop-a-init c = let p = c.requires in (sofar-start (fit_same (wired-at p.wired) p.bonds_fit) _ _ _ _ p.number_value, kept_same)

pub root-count-requires : goal.root-count-requires
root-count-requires c = let p = c.requires in
    let l = c.link.ensures in
    record { bonds_fit = fit_same (wired-at p.wired) p.bonds_fit; places = places-kept p.places c.link.auto.head c.link.auto.after c.link.auto.behind refl refl refl; linked = linked-same (wired-at p.wired) l; room = room-kept p.room c.loop-a.invariant.1; a_lt_n = c.loop-a-test.true }

pub loop-a-preserved : goal.loop-a-preserved
loop-a-preserved c = let p = c.requires in
    let i = c.loop-a.invariant in
    let r = c.root-count.ensures in
    (sofar-step (fit_same (wired-at p.wired) p.bonds_fit) _ _ _ _ c.loop-a-test.true i.0 r.grown, kept_then i.1 r.kept)

pub shape_of-order : goal.shape_of-order
shape_of-order c = c.loop-a.invariant.1.order

pub shape_of-number : goal.shape_of-number
shape_of-number c = c.loop-a.invariant.1.number

pub shape_of-up : goal.shape_of-up
shape_of-up c = c.loop-a.invariant.1.up

pub shape_of-kind : goal.shape_of-kind
shape_of-kind c = c.loop-a.invariant.1.kind

pub shape_of-head : goal.shape_of-head
shape_of-head c = c.link.auto.head

pub shape_of-after : goal.shape_of-after
shape_of-after c = c.link.auto.after

pub shape_of-behind : goal.shape_of-behind
shape_of-behind c = c.link.auto.behind

pub returns : goal.returns
returns c = let p = c.requires in
    let i = c.loop-a.invariant in
    let w = sofar-end (fit_same (wired-at p.wired) p.bonds_fit) _ _ _ _ _ _ c.loop-a-test.false p.room i.0 in
    record { walked = walked-table p.wired w; kept = i.1 }
