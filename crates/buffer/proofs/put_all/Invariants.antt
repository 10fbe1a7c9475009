use mathlib.Core.Path.{◌≡◌}
use lib.ListN.{length}
use Rattle.buffer.specs.Buffer.{buffer_at}
use Rattle.buffer.proofs.Laws.{Laying}
use Rattle.buffer.proofs.put_all.Given as goal

abbrev pub invariant-loop-b : goal.invariant-loop-b
invariant-loop-b l = Laying (λ b. b) l.s l.b-index (buffer_at l.initial.out l.at) (buffer_at l.out l.to) × (length l.out ≡ length l.initial.out)
