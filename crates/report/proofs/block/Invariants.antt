use Prim.Native.Nat.{◌-◌}
use lib.ListN.{length}
use Rattle.report_lines.specs.Cut.{Bounded}
use Rattle.report.proofs.block.Given as goal

abbrev pub invariant-loop-at : goal.invariant-loop-at
invariant-loop-at g l = Bounded l.progress.line

abbrev pub decreases-loop-at : goal.decreases-loop-at
decreases-loop-at g l = length l.s - l.at
