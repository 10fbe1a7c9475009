use Rattle.balsa.proofs.Laws.{row-law}
use Rattle.balsa.proofs.forced.balsa_next_forced.Goals as goal

pub returns : goal.returns
returns c = row-law c.found_code.ensures c.next_forced.ensures
