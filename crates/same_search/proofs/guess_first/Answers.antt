use native.Mathlib.Omega.{arith}
use mathlib.Core.Path.{refl, ◌∙◌}
use lib.ListN.{length-set}
use Rattle.same_search.proofs.guess_first.Goals as goal

pub loop-a-init : goal.loop-a-init
loop-a-init c = (omega arith, refl)

pub first_in_row-requires : goal.first_in_row-requires
first_in_row-requires c = (c.requires, omega (arith, c.loop-a-test.true, c.requires))

pub loop-a-preserved : goal.loop-a-preserved
loop-a-preserved c = (omega (arith, c.loop-a-test.true), length-set c.loop-a.k1 c.loop-a.a _ ∙ c.loop-a.invariant.1)

pub returns : goal.returns
returns c = c.loop-a.invariant.1
