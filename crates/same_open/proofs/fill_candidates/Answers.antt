use mathlib.Core.Path.{refl}
use native.Mathlib.Omega.{arith}
use Rattle.same_open.proofs.Seeking.{filled-start, filled-step}
use Rattle.same_open.proofs.fill_candidates.Goals as goal

pub loop-a-init : goal.loop-a-init
loop-a-init c = filled-start

pub candidates-requires : goal.candidates-requires
candidates-requires c = (c.requires, c.loop-a-test.true)

pub loop-a-preserved : goal.loop-a-preserved
loop-a-preserved c = filled-step c.loop-a.invariant c.loop-a-test.true (omega (arith, c.loop-a-test.true, c.requires)) refl c.candidates.ensures

pub returns : goal.returns
returns c = λ a e i j h. c.loop-a.invariant.right a (omega (arith, c.loop-a-test.false)) e j h
