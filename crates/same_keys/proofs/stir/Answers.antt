use Rattle.same_keys.specs.Keys.{stirred}
use Rattle.same_keys.proofs.stir.Goals as goal

pub returns : goal.returns
unfolding stirred
returns c = c.mix.ensures
