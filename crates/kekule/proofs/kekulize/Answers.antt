use Rattle.table.proofs.Sound.{sound-valid}
use Rattle.kekule.proofs.Kekule.{held, failed, row_room, kekulize-short, kekulize-invalid, kekulize-wrong, kekulize-crowded, kekulize-done}
use Rattle.kekule.proofs.kekulize.Goals as goal

pub returns-then-not-roomy : goal.returns-then-not-roomy
returns-then-not-roomy c = let a = c.args in
    kekulize-short a.atoms.now a.bonds.now a.n a.m a.row.now (failed c.roomy.ensures c.if-not-roomy.true-raw)

pub returns-then-not-sound : goal.returns-then-not-sound
returns-then-not-sound c = let a = c.args in
    kekulize-invalid a.atoms.now a.bonds.now a.n a.m a.row.now (held c.roomy.ensures c.if-not-roomy.false-raw) (failed c.sound.ensures c.if-not-sound.true-raw)

pub is_matching_valid-requires : goal.is_matching_valid-requires
is_matching_valid-requires c = let a = c.args in
    let v = sound-valid a.atoms.now a.bonds.now a.n a.m (held c.sound.ensures c.if-not-sound.false-raw) in
    record { valid = v; m_in_bounds = row_room a.atoms.now a.bonds.now a.n a.m _ (held c.roomy.ensures c.if-not-roomy.false-raw) v }

pub returns-then-not-is_matching_valid : goal.returns-then-not-is_matching_valid
returns-then-not-is_matching_valid c = let a = c.args in
    kekulize-wrong a.atoms.now a.bonds.now a.n a.m a.row.now (held c.roomy.ensures c.if-not-roomy.false-raw) (held c.sound.ensures c.if-not-sound.false-raw) (failed c.is_matching_valid.ensures c.if-not-is_matching_valid.true-raw)

pub none_crowded_by-requires : goal.none_crowded_by-requires
none_crowded_by-requires c = let a = c.args in
    let v = sound-valid a.atoms.now a.bonds.now a.n a.m (held c.sound.ensures c.if-not-sound.false-raw) in
    (v.bonds_few, row_room a.atoms.now a.bonds.now a.n a.m _ (held c.roomy.ensures c.if-not-roomy.false-raw) v)

pub returns-then-not-none_crowded_by : goal.returns-then-not-none_crowded_by
returns-then-not-none_crowded_by c = let a = c.args in
    kekulize-crowded a.atoms.now a.bonds.now a.n a.m a.row.now (held c.roomy.ensures c.if-not-roomy.false-raw) (held c.sound.ensures c.if-not-sound.false-raw) (held c.is_matching_valid.ensures c.if-not-is_matching_valid.false-raw) (failed c.none_crowded_by.ensures c.if-not-none_crowded_by.true-raw)

pub kekulize_valid-requires : goal.kekulize_valid-requires
kekulize_valid-requires c = let a = c.args in
    let v = sound-valid a.atoms.now a.bonds.now a.n a.m (held c.sound.ensures c.if-not-sound.false-raw) in
    record { atoms_few = v.atoms_few; bonds_few = v.bonds_few; room = row_room a.atoms.now a.bonds.now a.n a.m _ (held c.roomy.ensures c.if-not-roomy.false-raw) v }

pub returns : goal.returns
returns c = let a = c.args in
    kekulize-done a.atoms.now a.bonds.now a.n a.m a.row.now (held c.roomy.ensures c.if-not-roomy.false-raw) (held c.sound.ensures c.if-not-sound.false-raw) (held c.is_matching_valid.ensures c.if-not-is_matching_valid.false-raw) (held c.none_crowded_by.ensures c.if-not-none_crowded_by.false-raw) c.kekulize_valid.ensures
