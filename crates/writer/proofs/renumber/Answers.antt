use Rattle.writer.proofs.Answer.{numbers-cleared}
use Rattle.writer.proofs.renumber.Goals as goal

pub returns : goal.returns
returns c = numbers-cleared _ _ _ _ _ c.requires.n_in_bounds.1 c.fill_numbers.ensures c.clear_numbers.ensures c.fill_numbers.auto.ren
