use Rattle.buffer.proofs.Laws.{also}
use Rattle.report_lines.specs.Format.{refused_line}
use Rattle.report_lines.proofs.output.refused.Goals as goal

pub returns : goal.returns
unfolding refused_line
returns c = also c.number-at.ensures
    (also c.put-at.ensures
    (also c.field-at.ensures
    (also c.field-at-2.ensures c.put.ensures)))
