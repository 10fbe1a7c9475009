use Prim.Native.Nat.{◌-◌}
use Rattle.same_mirror.proofs.Passing.{Spreading}
use Rattle.same_mirror.proofs.spread.Given as goal

abbrev pub invariant-loop-x : goal.invariant-loop-x
invariant-loop-x l = Spreading l.n l.like l.initial.dead l.dead l.x
