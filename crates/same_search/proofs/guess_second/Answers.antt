use native.Mathlib.Omega.{arith}
use mathlib.Core.Path.{refl, ◌∙◌}
use lib.ListN.{length-set}
use Rattle.same_search.proofs.guess_second.Goals as goal

pub loop-d-init : goal.loop-d-init
loop-d-init c = (omega arith, refl)

pub key_in_column-requires : goal.key_in_column-requires
key_in_column-requires c = (c.requires, omega (arith, c.loop-d-test.true, c.requires))

pub loop-d-preserved : goal.loop-d-preserved
loop-d-preserved c = (omega (arith, c.loop-d-test.true), length-set c.loop-d.k2 c.loop-d.d _ ∙ c.loop-d.invariant.1)

pub returns : goal.returns
returns c = c.loop-d.invariant.1
