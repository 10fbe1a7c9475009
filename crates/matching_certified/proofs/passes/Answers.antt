use Rattle.matching_certified.proofs.Reason.{passed, unfree}
use Rattle.matching_certified.proofs.passes.Goals as goal

pub returns-then-choosable : goal.returns-then-choosable
returns-then-choosable c = passed c.choosable.ensures c.if-choosable.true c.is_fine.ensures

pub returns : goal.returns
returns c = unfree _ c.choosable.ensures c.if-choosable.false
