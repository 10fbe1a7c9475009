use Rattle.reader.proofs.Bridges.{was-not, away-none}
use Rattle.reader.proofs.bridge.joined_already.Goals as goal

pub returns-then-not-near : goal.returns-then-not-near
returns-then-not-near c = away-none (record { all = λ e k l. c.near.ensures.all (was-not _ c.if-not-near.true-raw) k l })
