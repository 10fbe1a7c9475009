use Rattle.folding.proofs.Paths.{placed-start, placed-step}
use Rattle.folding.proofs.move_bonds.Goals as goal

pub loop-i-init : goal.loop-i-init
loop-i-init c = placed-start

pub loop-i-preserved : goal.loop-i-preserved
loop-i-preserved c = placed-step c.loop-i.invariant c.loop-i-test.true c.move_bond-k.ensures c.move_bond-k.auto.bonds
