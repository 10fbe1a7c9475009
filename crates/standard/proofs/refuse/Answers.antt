use Rattle.standard.proofs.Calls.{refuses}
use Rattle.standard.proofs.refuse.Goals as goal

pub returns : goal.returns
returns c = let a = c.args in
    refuses a.refusal a.at a.out.now _ c.clear_from.ensures
