use Prim.Native.Nat.{◌-◌}
use Rattle.same_mirror.proofs.Checking.{All, Own}
use Rattle.same_mirror.proofs.is_onto.Given as goal

abbrev pub invariant-loop-d : goal.invariant-loop-d
invariant-loop-d l = All (Own l.like) l.n l.d
