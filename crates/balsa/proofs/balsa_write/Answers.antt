use Rattle.balsa.proofs.Laws.{write-law}
use Rattle.balsa.proofs.balsa_write.Goals as goal

pub returns : goal.returns
returns c = write-law c.write.result c.from.ensures c.write.ensures
