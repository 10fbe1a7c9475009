use Rattle.buffer.proofs.Laws.{also, as_is}
use Rattle.report_lines.proofs.Format.{no_row, a-row}
use Rattle.report_lines.proofs.output.row_field.Goals as goal

pub returns-then-row-eq0 : goal.returns-then-row-eq0
returns-then-row-eq0 c = as_is (no_row c.args.row.now c.if-row-eq0.true) c.put_all.ensures

pub returns : goal.returns
returns c = as_is (a-row c.args.row.now c.if-row-eq0.false) (also c.put-at.ensures c.bits.ensures)
