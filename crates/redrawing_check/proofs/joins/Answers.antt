use Rattle.redrawing_check.proofs.Checking.{joins-by}
use Rattle.redrawing_check.proofs.joins.Goals as goal

pub returns : goal.returns
returns c = joins-by _ _ _ _ c.bond_number-first.ensures c.bond_number-second.ensures
