use Prim.Native.Nat.{◌-◌}
use Rattle.same_mirror.proofs.Checking.{All, Carried}
use Rattle.same_mirror.proofs.is_carried.Given as goal

abbrev pub invariant-loop-e : goal.invariant-loop-e
invariant-loop-e l = All (Carried l.like l.x l.y) l.n l.e
