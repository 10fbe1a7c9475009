use Prim.Native.Nat.{◌-◌}
use Rattle.loops.proofs.Loops.{Left}
use Rattle.same_finer.specs.Finer.{mirror}
use Rattle.same_finer.proofs.is_mirrored.Given as goal

abbrev pub invariant-loop-i : goal.invariant-loop-i
invariant-loop-i l = Left (mirror l.w) l.end l.i
