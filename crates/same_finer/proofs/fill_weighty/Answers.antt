use mathlib.Core.Path.{refl}
use native.Mathlib.Omega.{arith}
use lib.ListN.{length-set}
use Rattle.same_open.proofs.Seeking.{filled-start, filled-step}
use Rattle.same_finer.proofs.fill_weighty.Goals as goal

pub loop-a-init : goal.loop-a-init
loop-a-init c = (filled-start, c.requires.1)

pub weighty-requires : goal.weighty-requires
weighty-requires c = (c.requires.0, omega (arith, c.loop-a-test.true, c.requires.0))

pub loop-a-preserved : goal.loop-a-preserved
loop-a-preserved c = (filled-step c.loop-a.invariant.0 c.loop-a-test.true (omega (arith, c.loop-a.invariant.1, c.loop-a-test.true)) refl c.weighty.ensures, simp length-set c.loop-a.invariant.1)

pub returns : goal.returns
returns c = λ a h. c.loop-a.invariant.0.right a (omega (arith, h, c.loop-a-test.false))
