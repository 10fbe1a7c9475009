use mathlib.Core.Path.{refl, sym, ap, ◌∙◌}
use mathlib.Core.List.{[], ◌∷◌}
use Rattle.buffer.proofs.Laws.{laying-start, laying-step, laying-end, as_is}
use Rattle.report_lines.proofs.output.bits.Goals as goal

pub loop-b-init : goal.loop-b-init
loop-b-init c = (laying-start, refl)

pub loop-b-preserved : goal.loop-b-preserved
loop-b-preserved c = (laying-step c.loop-b.invariant.0 c.loop-b-test.true (as_is (ap (λ b. b ∷ []) (sym c.bit.ensures)) c.put-to.ensures), c.put-to.auto.out ∙ c.loop-b.invariant.1)

pub shape_of-out : goal.shape_of-out
shape_of-out c = c.loop-b.invariant.1

pub returns : goal.returns
returns c = laying-end c.loop-b.invariant.0 c.loop-b-test.false
