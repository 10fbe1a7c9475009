use native.Mathlib.Omega.{arith}
use Rattle.reader.proofs.Filling.{filling-start, filling_step, filling-adds, filling-end}
use Rattle.reader.proofs.ending.hydrogenate.Goals as goal

pub loop-i-init : goal.loop-i-init
loop-i-init c = filling-start

pub bounds-sums-i : goal.bounds-sums-i
bounds-sums-i c = omega (arith, c.loop-i-test.true, c.requires.1)

pub overflow_add-overfull : goal.overflow_add-overfull
overflow_add-overfull c = record { fits = omega (arith, filling-adds c.loop-i.invariant c.hydrogenate_atom-overfull.ensures, c.loop-i-test.true, c.requires.0) }

pub loop-i-preserved : goal.loop-i-preserved
loop-i-preserved c = filling_step c.loop-i.invariant c.loop-i-test.true c.hydrogenate_atom-overfull.ensures c.hydrogenate_atom-overfull.auto.atoms

pub shape_of-atoms : goal.shape_of-atoms
shape_of-atoms c = c.loop-i.invariant.hydrogens.room

pub returns : goal.returns
returns c = filling-end c.loop-i.invariant c.loop-i-test.false
