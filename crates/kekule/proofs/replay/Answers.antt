use Rattle.kekule.proofs.Calls.{replay-short, replay-done}
use Rattle.kekule.proofs.replay.Goals as goal

pub returns-then-codes-calls : goal.returns-then-codes-calls
returns-then-codes-calls c = let a = c.args in
    replay-short a.calls.now a.tables.atoms.now a.tables.bonds.now a.tables.n a.tables.m a.row.now a.codes.now c.if-codes-calls.true

pub returns : goal.returns
returns c = let a = c.args in
    replay-done a.calls.now a.tables.atoms.now a.tables.bonds.now a.tables.n a.tables.m a.row.now a.codes.now c.if-codes-calls.false c.run_calls.ensures c.run_calls.auto.codes c.clear_from.ensures
