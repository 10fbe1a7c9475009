use Rattle.balsa.proofs.Laws.{fed-law}
use Rattle.balsa.proofs.pieces_call.balsa_feed.Goals as goal

pub returns : goal.returns
returns c = fed-law c.feed.result c.fed_reply.ensures c.feed.ensures
