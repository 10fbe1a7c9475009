use Prim.Native.Nat.{◌-◌}
use Rattle.loops.proofs.Loops.{Left}
use Rattle.same_place.specs.Place.{beside}
use Rattle.same_place.proofs.placeable.Given as goal

abbrev pub invariant-loop-b : goal.invariant-loop-b
invariant-loop-b l = Left (beside l.o1 l.o2 l.ren l.a l.d) l.a l.b
