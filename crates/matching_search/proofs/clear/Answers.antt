use Rattle.loops.proofs.Clearing.{cleared}
use Rattle.matching_search.proofs.clear.Goals as goal

pub returns : goal.returns
returns c = cleared c.args.row.now c.args.from.0 c.blank.ensures
