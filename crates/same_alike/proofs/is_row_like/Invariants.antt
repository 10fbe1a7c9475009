use Prim.Native.Nat.{◌-◌}
use Rattle.loops.proofs.Loops.{Left}
use Rattle.same_alike.specs.Alike.{like_pair}
use Rattle.same_alike.proofs.is_row_like.Given as goal

abbrev pub invariant-loop-b : goal.invariant-loop-b
invariant-loop-b l = Left (like_pair l.sides.o2.now l.sides.ok.now l.tau l.a) l.sides.n l.b
