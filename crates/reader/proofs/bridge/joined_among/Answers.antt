use mathlib.Core.Path.{sym, ◌∙◌}
use Rattle.loops.proofs.Loops.{left-start}
use Rattle.reader.proofs.Bridges.{found, passed, none_found}
use Rattle.reader.proofs.bridge.joined_among.Goals as goal

pub loop-i-init : goal.loop-i-init
loop-i-init c = left-start

pub returns-then-joins : goal.returns-then-joins
returns-then-joins c = found _ _ _ c.loop-i.invariant c.loop-i-test.true (sym c.joins.ensures ∙ c.if-joins.true)

pub loop-i-preserved : goal.loop-i-preserved
loop-i-preserved c = passed _ _ _ c.loop-i.invariant c.loop-i-test.true (sym c.joins.ensures ∙ c.if-joins.false)

pub returns : goal.returns
returns c = none_found _ _ _ c.loop-i.invariant c.loop-i-test.false
