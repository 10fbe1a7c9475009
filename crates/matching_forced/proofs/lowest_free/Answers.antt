use mathlib.Core.Path.{sym, ◌∙◌}
use Rattle.matching_forced.proofs.Counts.{sought-start, sought-step, none-lowest}
use Rattle.matching_forced.proofs.Finding.{free-there, found-free, no-free}
use Rattle.matching_forced.proofs.Tables.{ends_at, elided-at}
use Rattle.matching_forced.proofs.lowest_free.Goals as goal

pub loop-i-init : goal.loop-i-init
loop-i-init c = sought-start

pub choosable-requires : goal.choosable-requires
choosable-requires c = record { ends = ends_at c.requires c.loop-i.i c.loop-i-test.true; k_in_bounds = elided-at c.requires c.loop-i.i c.loop-i-test.true }

pub returns-then-choosable : goal.returns-then-choosable
returns-then-choosable c = (found-free c.requires c.loop-i.invariant c.loop-i-test.true c.choosable.ensures c.if-choosable.true, c.loop-i-test.true)

pub loop-i-preserved : goal.loop-i-preserved
loop-i-preserved c = sought-step c.loop-i.invariant c.loop-i-test.true (free-there c.requires c.loop-i-test.true ∙ sym c.choosable.ensures ∙ c.if-choosable.false)

pub returns : goal.returns
returns c = none-lowest (no-free c.requires c.loop-i.invariant c.loop-i-test.false)
