use Rattle.loops.proofs.Loops.{edited-step, edited-end}
use Rattle.folding.specs.Folding.{bared_bonds}
use Rattle.folding.proofs.bare_bonds.Goals as goal

pub loop-i-preserved : goal.loop-i-preserved
loop-i-preserved c = edited-step c.loop-i.invariant _ c.loop-i-test.true c.bare_bond.ensures c.bare_bond.auto.bonds

pub returns : goal.returns
unfolding bared_bonds
returns c = edited-end c.loop-i.invariant c.loop-i-test.false
