use Rattle.balsa.proofs.Laws.{standard-law}
use Rattle.balsa.proofs.standard_call.balsa_standardize.Goals as goal

pub returns : goal.returns
returns c = standard-law c.standardize.result c.from.ensures c.standardize.ensures
