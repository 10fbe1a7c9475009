use Rattle.std.proofs.Common.{rules, ap, ◌∙◌, Ok}
use Rattle.register.specs.Answers.{out, added_of}
use Rattle.register.proofs.Paths.{no-room, adding-done}
use Rattle.register.proofs.add.Goals as goal

pub returns-in_err-with_room : goal.returns-in_err-with_room
unfolding added_of
returns-in_err-with_room c = search (rules, no-room)

pub returns : goal.returns
unfolding added_of
returns c = let h = c.in_ok-with_room.ensures.ok in
    ap (out (Ok tt)) c.store_all.ensures ∙ adding-done _ _ _ h.ready.full h.ready.sound h.fitting
