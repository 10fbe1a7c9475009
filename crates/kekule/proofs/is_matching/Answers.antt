use mathlib.Core.Path.{sym, ◌∙◌}
use Rattle.table.proofs.Sound.{sound-valid}
use Rattle.kekule.specs.Kekule.{asked_of}
use Rattle.kekule.proofs.Kekule.{held, failed, row_room}
use Rattle.kekule.proofs.is_matching.Goals as goal

pub returns-then-not-roomy : goal.returns-then-not-roomy
unfolding asked_of
returns-then-not-roomy c = simp (failed c.roomy.ensures c.if-not-roomy.true-raw)

pub returns-then-not-sound : goal.returns-then-not-sound
unfolding asked_of
returns-then-not-sound c = simp (held c.roomy.ensures c.if-not-roomy.false-raw, failed c.sound.ensures c.if-not-sound.true-raw)

pub is_matching_valid-requires : goal.is_matching_valid-requires
is_matching_valid-requires c = let a = c.args in
    let v = sound-valid a.tables.atoms.now a.tables.bonds.now a.tables.n a.tables.m (held c.sound.ensures c.if-not-sound.false-raw) in
    record { valid = v; m_in_bounds = row_room a.tables.atoms.now a.tables.bonds.now a.tables.n a.tables.m _ (held c.roomy.ensures c.if-not-roomy.false-raw) v }

pub returns-then-is_matching_valid : goal.returns-then-is_matching_valid
unfolding asked_of
returns-then-is_matching_valid c = simp (held c.roomy.ensures c.if-not-roomy.false-raw, held c.sound.ensures c.if-not-sound.false-raw, sym c.is_matching_valid.ensures ∙ c.if-is_matching_valid.true)

pub returns : goal.returns
unfolding asked_of
returns c = simp (held c.roomy.ensures c.if-not-roomy.false-raw, held c.sound.ensures c.if-not-sound.false-raw, sym c.is_matching_valid.ensures ∙ c.if-is_matching_valid.false)
