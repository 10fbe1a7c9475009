use native.Mathlib.Omega.{arith}
use mathlib.Core.Path.{ap, ◌∙◌}
use Rattle.loops.proofs.Loops.{edited-start, filled-step, filled-end}
use Rattle.same_keys.specs.Keys.{first_key}
use Rattle.same_keys.proofs.fill_first.Goals as goal

pub loop-i-init : goal.loop-i-init
loop-i-init c = edited-start

pub loop-i-preserved : goal.loop-i-preserved
loop-i-preserved c = let v = c.loop-i in
    filled-step v.invariant _ c.loop-i-test.true (c.first_key.ensures ∙ ap (first_key c.args.atoms.now v.i) c.plus.ensures)

pub returns : goal.returns
returns c = filled-end c.loop-i.invariant (omega (arith, c.requires)) c.loop-i-test.false
