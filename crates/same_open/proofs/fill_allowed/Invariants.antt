use Prim.Native.Nat.{◌-◌}
use Rattle.same_open.proofs.Seeking.{Filled, Right}
use Rattle.same_open.proofs.fill_allowed.Given as goal

abbrev pub invariant-loop-i : goal.invariant-loop-i
invariant-loop-i l = Filled (Right l.p l.n) 384 l.i l.allowed
