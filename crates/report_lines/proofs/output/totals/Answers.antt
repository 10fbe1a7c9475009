use Rattle.buffer.proofs.Laws.{also}
use Rattle.report_lines.specs.Format.{totals_line}
use Rattle.report_lines.proofs.output.totals.Goals as goal

pub returns : goal.returns
unfolding totals_line
returns c = also c.put_all-at.ensures
    (also c.field-at.ensures
    (also c.put_all-at-2.ensures
    (also c.field-at-2.ensures c.put.ensures)))
