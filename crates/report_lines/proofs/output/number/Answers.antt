use mathlib.Core.Path.{sym}
use Rattle.buffer.proofs.Laws.{as_is}
use Rattle.report_lines.proofs.output.number.Goals as goal

pub returns : goal.returns
returns c = as_is (sym c.digits-k.ensures.is) c.put_all.ensures
