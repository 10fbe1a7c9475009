use Rattle.writing_visit.specs.Straight.{Held}
use Prim.Native.Nat.{◌≤◌}
use Rattle.writing_visit.proofs.is_above.Given as goal

abbrev pub invariant-loop : goal.invariant-loop
invariant-loop l = (l.a ≤ l.from) × Held l.up l.a l.from
