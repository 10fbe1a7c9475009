use Rattle.balsa.proofs.Laws.{tables-law}
use Rattle.balsa.proofs.balsa_kekulize.Goals as goal

pub returns : goal.returns
returns c = tables-law c.check_code.ensures c.kekulize.ensures
