use Rattle.std.proofs.Common.{rules, ap, ◌∙◌, Ok}
use native.Mathlib.Omega.{arith}
use Rattle.register.specs.Answers.{out, stepped_of}
use Rattle.register.proofs.Paths.{no-room, adding-done, used-at, step-as}
use Rattle.register.proofs.step.Goals as goal

pub returns-in_err-with_room : goal.returns-in_err-with_room
unfolding stepped_of
returns-in_err-with_room c = search (rules, no-room)

pub store-requires : goal.store-requires
store-requires c = let h = c.in_ok-with_room.ensures.ok in
    let u = used-at _ _ _ c.count-n.ensures c.end_before-e.ensures.value in
    (omega arith, omega arith, omega arith, omega arith)

pub returns : goal.returns
unfolding stepped_of
returns c = let h = c.in_ok-with_room.ensures.ok in
    ap (out (Ok tt)) (c.store.ensures ∙ step-as _ _ _ _ _ _ c.count-n.ensures c.end_before-e.ensures.value)
    ∙ adding-done _ _ _ h.ready.full h.ready.sound h.fitting
