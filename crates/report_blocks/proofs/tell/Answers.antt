use mathlib.Core.Path.{sym}
use native.Mathlib.Omega.{arith}
use lib.Seq.{length-take-le}
use Rattle.report_blocks.proofs.tell.Goals as goal

pub slice_bounds-report_line-end : goal.slice_bounds-report_line-end
slice_bounds-report_line-end c = sym (length-take-le c.args.line.len c.args.line.bytes (omega arith))
