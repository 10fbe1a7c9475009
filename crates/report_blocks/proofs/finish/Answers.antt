use mathlib.Core.Path.{◌∙◌}
use Rattle.buffer.proofs.Laws.{as_is}
use Rattle.report_blocks.proofs.Lines.{gathered-length, no_last, last-told}
use Rattle.report_blocks.proofs.finish.Goals as goal

pub returns-then-line-eq0 : goal.returns-then-line-eq0
returns-then-line-eq0 c = as_is (no_last c.args.g.tally _ (gathered-length c.args.g.line c.requires ∙ c.if-line-eq0.true)) c.totals.ensures

pub returns : goal.returns
returns c = last-told c.args.g.line c.args.g.tally c.requires c.if-line-eq0.false c.tell-r.ensures c.count-t.ensures c.totals-2.ensures
