use Prim.Native.Nat.{◌-◌}
use Rattle.loops.proofs.Loops.{Left}
use Rattle.same_alike.specs.Alike.{like_row}
use Rattle.same_alike.proofs.are_rows_like.Given as goal

abbrev pub invariant-loop-a : goal.invariant-loop-a
invariant-loop-a l = Left (like_row l.sides.o2.now l.sides.ok.now l.tau l.sides.n) l.sides.n l.a
