use Prim.Native.Nat.{◌-◌}
use Rattle.same_finer.proofs.Nearby.{Summed}
use Rattle.same_finer.proofs.next_key.Given as goal

abbrev pub invariant-loop-rest : goal.invariant-loop-rest
invariant-loop-rest l = Summed l.w l.mixed l.n l.a l.key l.near l.sum l.rest l.b

abbrev pub decreases-loop-rest : goal.decreases-loop-rest
decreases-loop-rest l = l.n - l.b
