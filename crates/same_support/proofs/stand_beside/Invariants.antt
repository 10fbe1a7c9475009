use Prim.Native.Nat.{◌-◌}
use Rattle.same_support.proofs.Standing.{Gone}
use Rattle.same_support.proofs.stand_beside.Given as goal

abbrev pub invariant-loop-d : goal.invariant-loop-d
invariant-loop-d l = Gone l.allowed l.mask l.c l.side l.rest l.d

abbrev pub decreases-loop-d : goal.decreases-loop-d
decreases-loop-d l = 64 - l.d
