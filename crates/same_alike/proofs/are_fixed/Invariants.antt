use Prim.Native.Nat.{◌-◌}
use Rattle.loops.proofs.Loops.{Left}
use Rattle.same_alike.specs.Alike.{is_fixed}
use Rattle.same_alike.proofs.are_fixed.Given as goal

abbrev pub invariant-loop-b : goal.invariant-loop-b
invariant-loop-b l = Left (is_fixed l.tau l.fn.placed.ren.now) l.fn.placed.from l.b
