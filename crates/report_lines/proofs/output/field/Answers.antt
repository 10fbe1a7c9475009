use Rattle.buffer.proofs.Laws.{also}
use Rattle.report_lines.proofs.output.field.Goals as goal

pub returns : goal.returns
returns c = also c.put-at.ensures c.number.ensures
