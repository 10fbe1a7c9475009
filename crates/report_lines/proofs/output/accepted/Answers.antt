use Rattle.buffer.proofs.Laws.{also}
use Rattle.report_lines.specs.Format.{accepted_line}
use Rattle.report_lines.proofs.output.accepted.Goals as goal

pub returns : goal.returns
unfolding accepted_line
returns c = also c.number-at.ensures
    (also c.put_all-at.ensures
    (also c.field-at.ensures
    (also c.field-at-2.ensures
    (also c.field-at-3.ensures
    (also c.row_field-at.ensures
    (also c.text_field-at.ensures
    c.put.ensures))))))
