use Rattle.matching_forced.proofs.Listed.{clearing-start, clearing-step, clearing-end}
use Rattle.matching_forced.proofs.set_zeros.Goals as goal

pub loop-i-init : goal.loop-i-init
loop-i-init c = clearing-start

pub loop-i-preserved : goal.loop-i-preserved
loop-i-preserved c = clearing-step c.requires c.loop-i.invariant c.loop-i-test.true

pub returns : goal.returns
returns c = clearing-end c.requires c.loop-i.invariant c.loop-i-test.false
