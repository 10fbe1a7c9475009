use Rattle.writing_visit.specs.Straight.{Cleared}
use Prim.Native.Nat.{◌≤◌}
use Rattle.writing_visit.proofs.clear.Given as goal

abbrev pub invariant-loop-a : goal.invariant-loop-a
invariant-loop-a l = (l.from ≤ l.a) × (Cleared l.from l.a l.initial.up l.up × Cleared l.from l.a l.initial.kind l.kind)
