use mathlib.Core.Path.{◌∙◌}
use native.Mathlib.Omega.{arith}
use Rattle.matching_certified.proofs.Count.{bit-byte, mark-start, mark-step, mark-end}
use Rattle.matching_certified.proofs.odd_labels.Goals as goal

pub loop-i-init : goal.loop-i-init
loop-i-init c = mark-start

pub overflow_add-n : goal.overflow_add-n
overflow_add-n c = omega (arith, (mark-step c.loop-i.invariant c.loop-i-test.true (c.from-n.ensures ∙ bit-byte _)).small, c.well_formed.0.0)

pub loop-i-preserved : goal.loop-i-preserved
loop-i-preserved c = mark-step c.loop-i.invariant c.loop-i-test.true (c.from-n.ensures ∙ bit-byte _)

pub returns : goal.returns
returns c = mark-end c.loop-i.invariant c.loop-i-test.false
