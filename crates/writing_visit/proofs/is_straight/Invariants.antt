use Rattle.writing_visit.specs.Straight.{Passed}
use Rattle.writing_visit.specs.Wires.{wires}
use lib.ListN.{length}
use Prim.Native.Nat.{◌≤◌}
use mathlib.Core.Path.{◌≡◌}
use Rattle.writing_visit.proofs.is_straight.Given as goal

abbrev pub invariant-loop-b : goal.invariant-loop-b
invariant-loop-b l = (l.b ≤ l.m) × ((l.next ≤ l.n) × (Passed (wires l.wiring.first.now l.wiring.second.now l.wiring.kinds.now) l.b l.next l.up l.kind × ((length l.up ≡ length l.initial.up) × (length l.kind ≡ length l.initial.kind))))
