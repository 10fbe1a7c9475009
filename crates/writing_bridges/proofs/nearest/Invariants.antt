use Rattle.writing_bridges.specs.Slots.{Near}
use Prim.Native.Nat.{◌≤◌}
use Rattle.writing_bridges.proofs.nearest.Given as goal

abbrev pub invariant-loop-i : goal.invariant-loop-i
invariant-loop-i l = (l.i ≤ l.k) × Near l.ends l.keys l.x.0 l.from.0 l.k l.i l.best.0
