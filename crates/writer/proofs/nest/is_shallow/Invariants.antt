use Rattle.writer.proofs.Nesting.{Nests}
use Rattle.writer.specs.Emit.{more_at}
use Prim.Native.Nat.{◌-◌}
use Rattle.writer.proofs.nest.is_shallow.Given as goal

abbrev pub invariant-loop-x : goal.invariant-loop-x
invariant-loop-x l = Nests l.up (more_at l.up l.last) l.n l.x l.depth

abbrev pub decreases-loop-x : goal.decreases-loop-x
decreases-loop-x l = l.n - l.x
