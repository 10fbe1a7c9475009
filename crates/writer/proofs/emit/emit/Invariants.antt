use Rattle.writer.proofs.Emission.{Onward}
use Rattle.writer.specs.Emit.{head_bytes}
use Rattle.buffer.specs.Buffer.{buffer_at}
use Rattle.writing_bridges.specs.Slots.{slot_count}
use mathlib.Core.Path.{◌≡◌}
use lib.ListN.{length, replicate}
use Prim.Native.Nat.{◌≤◌}
use Rattle.writer.proofs.emit.emit.Given as goal

abbrev pub invariant-loop-x : goal.invariant-loop-x
invariant-loop-x l = Onward (head_bytes l.atoms l.trail.order.now l.trail.up.now l.trail.kind.now l.last l.sums l.written) l.bonds.los.now l.bonds.his.now l.bonds.kinds.now l.n l.bonds.count (replicate slot_count 0) (buffer_at l.initial.out 0) l.x l.slots (buffer_at l.out l.at) × (l.x ≤ l.n) × (length l.slots ≡ slot_count) × (length l.out ≡ length l.initial.out)
