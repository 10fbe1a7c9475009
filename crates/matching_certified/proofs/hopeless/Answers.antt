use Rattle.matching_search.proofs.Flags.{never}
use Rattle.matching_certified.proofs.hopeless.Goals as goal

pub returns : goal.returns
returns c = λ e. absurd (never e)
