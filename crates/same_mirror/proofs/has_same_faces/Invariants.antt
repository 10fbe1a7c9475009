use Prim.Native.Nat.{◌-◌}
use Rattle.same_mirror.proofs.Checking.{All, Faced}
use Rattle.same_mirror.proofs.has_same_faces.Given as goal

abbrev pub invariant-loop-i : goal.invariant-loop-i
invariant-loop-i l = All (Faced l.allowed l.n l.like) 384 l.i
