use Rattle.report_blocks.proofs.Lines.{from_nothing}
use Rattle.report_blocks.proofs.begin.Goals as goal

pub returns : goal.returns
returns c = record { text = λ input. from_nothing _ input c.new-line.ensures.empty; bounded = c.new-line.ensures.bounded }
