use mathlib.Core.Path.{◌∙◌, sym}
use Rattle.matching_forced.proofs.Counts.{sought-start, sought-step, none-lowest}
use Rattle.matching_forced.proofs.Finding.{found-bond, no-bond}
use Rattle.matching_forced.proofs.free_bond.Goals as goal

pub loop-i-init : goal.loop-i-init
loop-i-init c = sought-start

pub returns-then-free_of : goal.returns-then-free_of
returns-then-free_of c = (found-bond c.requires c.args.v.0 c.loop-i.invariant c.loop-i-test.true c.free_of.ensures c.if-free_of.true, c.loop-i-test.true)

pub loop-i-preserved : goal.loop-i-preserved
loop-i-preserved c = sought-step c.loop-i.invariant c.loop-i-test.true (sym c.free_of.ensures ∙ c.if-free_of.false)

pub returns : goal.returns
returns c = none-lowest (no-bond c.requires c.args.v.0 c.loop-i.invariant c.loop-i-test.false)
