use Rattle.writing_visit.proofs.Lists.{fit_wide}
use Rattle.writing_visit.proofs.Wires.{fit_same, wired-at, walked-table, note-room, places-kept}
use Rattle.writing_visit.proofs.Laws.{kept_then}
use Rattle.writing_visit.proofs.Straight.{straight-walk}
use mathlib.Core.Path.{refl}
use native.Mathlib.Omega.{arith}
use Rattle.writing_visit.proofs.walk.Goals as goal

pub note-requires : goal.note-requires
note-requires c = let p = c.requires in
    record { bonds_fit = fit_wide p.bonds_fit; sums_value = p.head_value.1; note_room = note-room p.bonds_fit p.places p.n_in_bounds }

pub is_straight-requires : goal.is_straight-requires
is_straight-requires c = let p = c.requires in
    let places = p.places in
    record { bonds_fit = fit_same (wired-at c.note.ensures.wired) p.bonds_fit; m_in_bounds = (omega (arith, c.note.auto.ea, places.firsts), omega (arith, c.note.auto.eb, places.seconds)); m_in_bounds_2 = omega (arith, c.note.auto.ks, places.kinds); n_in_bounds = (p.room.up, p.room.kind) }

pub number_in_turn-requires : goal.number_in_turn-requires
number_in_turn-requires c = let p = c.requires in record { n_in_bounds = (p.room.order, p.room.number); n_le_max_atoms = p.bonds_fit.atoms_few }

pub returns-then-is_straight : goal.returns-then-is_straight
returns-then-is_straight c = let p = c.requires in
    let e = c.note.ensures in
    let passed = c.is_straight.ensures c.if-is_straight.true in
    let t = c.number_in_turn in
    record { walked = walked-table e.wired (straight-walk (fit_same (wired-at e.wired) p.bonds_fit) passed t.ensures); kept = record { order = t.auto.order; number = t.auto.number; up = c.is_straight.auto.up; kind = c.is_straight.auto.kind }; wired = e.wired; sums_after = e.sums_after }

pub walk_lists-requires : goal.walk_lists-requires
walk_lists-requires c = let p = c.requires in
    let n = c.note in
    let room = p.room in
    record { bonds_fit = p.bonds_fit; wired = n.ensures.wired; room = record { order = room.order; number = room.number; up = omega (arith, room.up, c.is_straight.auto.up); kind = omega (arith, room.kind, c.is_straight.auto.kind) }; number_value = p.number_value; head_value = p.head_value.0; places = places-kept p.places refl refl refl n.auto.ea n.auto.eb n.auto.ks }

pub shape_of-ea : goal.shape_of-ea
shape_of-ea c = c.note.auto.ea

pub shape_of-eb : goal.shape_of-eb
shape_of-eb c = c.note.auto.eb

pub shape_of-ks : goal.shape_of-ks
shape_of-ks c = c.note.auto.ks

pub shape_of-sums : goal.shape_of-sums
shape_of-sums c = c.note.auto.sums

pub returns : goal.returns
returns c = let e = c.note.ensures in
    let w = c.walk_lists.ensures in
    record { walked = w.walked; kept = kept_then (record { order = refl; number = refl; up = c.is_straight.auto.up; kind = c.is_straight.auto.kind }) w.kept; wired = e.wired; sums_after = e.sums_after }
