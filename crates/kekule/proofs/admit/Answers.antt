use mathlib.Core.Path.{refl}
use Rattle.kekule.proofs.Kekule.{held, failed, call-short, call-invalid}
use Rattle.kekule.proofs.admit.Goals as goal

pub returns-then-not-roomy : goal.returns-then-not-roomy
returns-then-not-roomy c = let a = c.args in
    λ k. call-short k a.tables.atoms.now a.tables.bonds.now a.tables.n a.tables.m a.row.now (failed c.roomy.ensures c.if-not-roomy.true-raw)

pub returns-then-not-sound : goal.returns-then-not-sound
returns-then-not-sound c = let a = c.args in
    λ k. call-invalid k a.tables.atoms.now a.tables.bonds.now a.tables.n a.tables.m a.row.now (held c.roomy.ensures c.if-not-roomy.false-raw) (failed c.sound.ensures c.if-not-sound.true-raw) c.clear.ensures

pub returns : goal.returns
returns c = record { long = held c.roomy.ensures c.if-not-roomy.false-raw; is_sound = held c.sound.ensures c.if-not-sound.false-raw; same = refl }
