use Rattle.balsa.proofs.Laws.{sides-law}
use Rattle.balsa.proofs.balsa_sides.Goals as goal

pub returns : goal.returns
returns c = sides-law c.check_code.ensures c.sides.ensures
