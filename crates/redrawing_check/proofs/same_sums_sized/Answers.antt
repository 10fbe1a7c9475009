use Rattle.redrawing_check.proofs.Checking.{sums-told}
use Rattle.redrawing_check.proofs.same_sums_sized.Goals as goal

pub returns : goal.returns
returns g c = sums-told c.settle.ensures c.settle-2.ensures c.requires.counts.0 c.requires.counts.2 c.same_numbers.ensures
