use Prim.Native.Nat.{◌-◌}
use Rattle.loops.proofs.Loops.{Left}
use Rattle.same_open.specs.Open.{is_inside}
use Rattle.same_open.proofs.are_inside.Given as goal

abbrev pub invariant-loop-a : goal.invariant-loop-a
invariant-loop-a l = Left (is_inside l.list l.n) l.n l.a
