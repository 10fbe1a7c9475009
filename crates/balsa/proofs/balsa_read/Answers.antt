use Rattle.balsa.proofs.Laws.{read-law}
use Rattle.balsa.proofs.balsa_read.Goals as goal

pub returns : goal.returns
returns c = read-law c.read.result c.from.ensures c.read.ensures
