use Rattle.balsa.proofs.Laws.{fed-law}
use Rattle.balsa.proofs.pieces_call.balsa_start.Goals as goal

pub returns : goal.returns
returns c = fed-law c.start.result c.fed_reply.ensures c.start.ensures
