use Prim.Native.Nat.{◌-◌}
use mathlib.Core.Path.{◌≡◌}
use lib.ListN.{length}
use Rattle.buffer.specs.Buffer.{buffer_at}
use Rattle.report_blocks.proofs.Laying.{Between}
use Rattle.report_blocks.proofs.whole.lay.Given as goal

abbrev pub invariant-loop-from : goal.invariant-loop-from
invariant-loop-from l = Between l.input (buffer_at l.initial.out l.initial.at) l.tally l.from (buffer_at l.out l.at) × (length l.out ≡ length l.initial.out)

abbrev pub decreases-loop-from : goal.decreases-loop-from
decreases-loop-from l = length l.input - l.from
