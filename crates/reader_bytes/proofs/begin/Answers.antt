use Rattle.std.proofs.lemmas.Result.{err_from_is_err_and}
use Rattle.reader_bytes.proofs.Parts.{room-enough, begin-refused, begin-taken}
use Rattle.reader_bytes.proofs.begin.Goals as goal

pub first-requires : goal.first-requires
first-requires c = record { has_room = room-enough c.args.h c.is_bonded-bonded.ensures c.in_ok-room_for.ensures; hub_lt_max_atoms = c.requires }

pub returns-in_err-room_for : goal.returns-in_err-room_for
returns-in_err-room_for c = let e = err_from_is_err_and c.from_residual.result c.from_residual.ensures.1 in
    λ s o k p y. rw (e.1, e.2) (begin-refused _ c.is_bonded-bonded.ensures _ _ _ _ _ c.in_err-room_for.ensures)

pub returns : goal.returns
returns c = λ s o k p y. begin-taken _ c.is_bonded-bonded.ensures _ _ _ c.in_ok-room_for.ensures (c.first.ensures s o k p y)
