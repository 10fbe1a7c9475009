use mathlib.Core.Path.{refl}
use Rattle.matching_forced.proofs.Listed.{back_start, back_step, back_end}
use Rattle.matching_forced.proofs.set_ones.Goals as goal

pub loop-i-init : goal.loop-i-init
loop-i-init c = back_start c.requires.upto

pub loop-i-preserved : goal.loop-i-preserved
loop-i-preserved c = back_step c.loop-i.invariant c.requires.upto c.loop-i-test.true refl

pub returns : goal.returns
returns c = back_end c.loop-i.invariant c.loop-i-test.false
