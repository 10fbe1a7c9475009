use Prim.Native.Nat.{◌-◌}
use mathlib.Core.Path.{◌≡◌}
use lib.ListN.{length}
use Rattle.report_blocks.proofs.Turn.{progress, Going}
use Rattle.report_blocks.proofs.report_block.Given as goal

abbrev pub invariant-loop-used : goal.invariant-loop-used
invariant-loop-used l = Going (progress l.initial.line l.initial.tally) l.s l.from l.out l.line l.tally l.at l.used × (length l.out ≡ length l.initial.out)

abbrev pub decreases-loop-used : goal.decreases-loop-used
decreases-loop-used l = length l.s - l.at
