use Rattle.loops.proofs.Loops.{edited-start, edited-step, edited-end}
use Rattle.table.specs.Edits.{doubled_bonds}
use Rattle.table_edits.proofs.kekulize.double_bonds.Goals as goal

pub loop-i-init : goal.loop-i-init
loop-i-init c = edited-start

pub loop-i-preserved : goal.loop-i-preserved
loop-i-preserved c = edited-step c.loop-i.invariant _ c.loop-i-test.true c.double_bond.ensures c.double_bond.auto.bonds

pub shape_of-bonds : goal.shape_of-bonds
shape_of-bonds c = c.loop-i.invariant.room

pub returns : goal.returns
unfolding doubled_bonds
returns c = edited-end c.loop-i.invariant c.loop-i-test.false
