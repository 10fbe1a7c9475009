use mathlib.Core.Path.{refl, ◌∙◌}
use Rattle.buffer.proofs.Laws.{laying-start, laying-step, laid-all}
use Rattle.buffer.proofs.put_all.Goals as goal

pub loop-b-init : goal.loop-b-init
loop-b-init c = (laying-start, refl)

pub loop-b-preserved : goal.loop-b-preserved
loop-b-preserved c = (laying-step c.loop-b.invariant.0 c.loop-b-test.true c.put-to.ensures, c.put-to.auto.out ∙ c.loop-b.invariant.1)

pub shape_of-out : goal.shape_of-out
shape_of-out c = c.loop-b.invariant.1

pub returns : goal.returns
returns c = laid-all c.loop-b.invariant.0 c.loop-b-test.false
