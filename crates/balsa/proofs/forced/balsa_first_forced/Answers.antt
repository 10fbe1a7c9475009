use Rattle.balsa.proofs.Laws.{forced-law}
use Rattle.balsa.proofs.forced.balsa_first_forced.Goals as goal

pub returns : goal.returns
returns c = forced-law c.found_code.ensures c.first_forced-first.ensures
