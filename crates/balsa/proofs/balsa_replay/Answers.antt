use Rattle.balsa.proofs.Laws.{replay-law}
use Rattle.balsa.proofs.balsa_replay.Goals as goal

pub returns : goal.returns
returns c = replay-law c.check_code.ensures c.replay.ensures.handed
