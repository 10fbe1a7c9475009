use Rattle.balsa.proofs.Laws.{same-law}
use Rattle.balsa.proofs.same_call.balsa_same.Goals as goal

pub returns : goal.returns
returns c = same-law c.same-answer.result c.sameness_code.ensures c.same-answer.ensures
