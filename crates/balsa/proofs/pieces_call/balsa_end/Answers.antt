use Rattle.balsa.proofs.Laws.{fed-law}
use Rattle.balsa.proofs.pieces_call.balsa_end.Goals as goal

pub returns : goal.returns
returns c = fed-law c.end.result c.fed_reply.ensures c.end.ensures
