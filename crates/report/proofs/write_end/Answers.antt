use mathlib.Core.Path.{sym}
use native.Mathlib.Omega.{arith}
use lib.Seq.{length-take-le}
use Rattle.report_lines.specs.Cut.{gathered}
use Rattle.report_blocks.proofs.Lines.{last_within}
use Rattle.report.proofs.Laws.{ends-within}
use Rattle.report.proofs.write_end.Goals as goal

pub slice_bounds-out-end : goal.slice_bounds-out-end
slice_bounds-out-end g c =
    ends-within c.finish-used.ensures (omega (arith, last_within c.args.g.tally (gathered c.args.g.line)))

pub slice_bounds-write_out-end : goal.slice_bounds-write_out-end
slice_bounds-write_out-end g c =
    sym (length-take-le _ _ (ends-within c.finish-used.ensures (omega (arith, last_within c.args.g.tally (gathered c.args.g.line)))))
