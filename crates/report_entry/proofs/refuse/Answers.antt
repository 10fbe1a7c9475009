use mathlib.Core.Path.{refl, sym, ap}
use Rattle.buffer.proofs.Laws.{as_is}
use Rattle.report_lines.specs.Format.{refused_line}
use Rattle.report_entry.proofs.refuse.Goals as goal

pub returns : goal.returns
returns c = record { text = as_is (ap (λ n. refused_line c.args.k n c.args.p) (sym c.code.ensures)) c.refused-at.ensures; flag = refl }
