use mathlib.Core.Path.{sym}
use native.Mathlib.Omega.{arith}
use lib.Seq.{length-take-le}
use Rattle.report.proofs.Laws.{ends-within}
use Rattle.report.proofs.write_header.Goals as goal

pub slice_bounds-out-end : goal.slice_bounds-out-end
slice_bounds-out-end g c = ends-within c.header-used.ensures (omega arith)

pub slice_bounds-write_out-end : goal.slice_bounds-write_out-end
slice_bounds-write_out-end g c = sym (length-take-le _ _ (ends-within c.header-used.ensures (omega arith)))
