use Rattle.same_decide.proofs.Barring.{apart-turned}
use Rattle.same_decide.proofs.bar_second.Goals as goal

pub bar-requires : goal.bar-requires
bar-requires c = record { valid = c.requires.valid_2; valid_2 = c.requires.valid; n_le_max_same = (c.requires.n_le_max_same.0, c.requires.n_le_max_same.2, c.requires.n_le_max_same.1) }

pub returns : goal.returns
returns c = λ to e. let w = c.bar.ensures to e in (w.0, apart-turned c.args.pair.ok.now _ c.requires.n_le_max_same.0 c.turn_over.ensures w.1)
