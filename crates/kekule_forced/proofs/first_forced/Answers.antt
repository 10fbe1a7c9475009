use Rattle.table.proofs.Sound.{sound-valid}
use Rattle.kekule.proofs.Kekule.{held, failed, row_room}
use Rattle.kekule_forced.proofs.Calls.{first_short, row-roomy, list-roomy, first-invalid, first_done, told-as}
use Rattle.kekule_forced.proofs.first_forced.Goals as goal

pub returns-then-not-roomy : goal.returns-then-not-roomy
returns-then-not-roomy c = let a = c.args in
    first_short a.tables.atoms.now a.tables.bonds.now a.tables.n a.tables.m a.row.now a.pairs.now (failed c.roomy.ensures c.if-not-roomy.true-raw)

pub returns-then-not-sound : goal.returns-then-not-sound
returns-then-not-sound c = let a = c.args in
    first-invalid a.tables.atoms.now a.tables.bonds.now a.tables.n a.tables.m a.row.now a.pairs.now (held c.roomy.ensures c.if-not-roomy.false-raw) (failed c.sound.ensures c.if-not-sound.true-raw) c.clear.ensures c.clear_pairs.ensures

pub first_valid-first-requires : goal.first_valid-first-requires
first_valid-first-requires c = let a = c.args in
    let e = held c.roomy.ensures c.if-not-roomy.false-raw in
    let v = sound-valid a.tables.atoms.now a.tables.bonds.now a.tables.n a.tables.m (held c.sound.ensures c.if-not-sound.false-raw) in
    record { valid = v; m_in_bounds = (row_room a.tables.atoms.now a.tables.bonds.now a.tables.n a.tables.m _ (row-roomy a.tables.atoms.now a.tables.bonds.now a.tables.n a.tables.m a.row.now a.pairs.now e) v, list-roomy a.tables.atoms.now a.tables.bonds.now a.tables.n a.tables.m a.row.now a.pairs.now e) }

pub returns : goal.returns
returns c = let a = c.args in
    first_done a.tables.atoms.now a.tables.bonds.now a.tables.n a.tables.m a.row.now a.pairs.now (held c.roomy.ensures c.if-not-roomy.false-raw) (held c.sound.ensures c.if-not-sound.false-raw) (told-as c.first_valid-first.result.answer c.found_of.result c.found_of.ensures c.first_valid-first.ensures)
