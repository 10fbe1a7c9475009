use native.Mathlib.Omega.{arith}
use Rattle.report_blocks.proofs.Laying.{reply-short, reply-fits}
use Rattle.report_blocks.proofs.whole.report.Goals as goal

pub returns-then-out-size : goal.returns-then-out-size
returns-then-out-size c = reply-short _ _ _ c.report_length-size.ensures c.if-out-size.true

pub returns : goal.returns
returns c = reply-fits _ _ _ c.report_length-size.ensures (omega (arith, c.well_formed.1.0.0)) c.if-out-size.false c.lay.ensures c.clear_from.ensures
