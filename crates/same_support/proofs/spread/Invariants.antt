use Prim.Native.Nat.{◌-◌}
use Rattle.same_support.proofs.Leaving.{Spreads}
use Rattle.same_support.proofs.spread.Given as goal

abbrev pub invariant-loop-i : goal.invariant-loop-i
invariant-loop-i l = Spreads l.p l.allowed l.n l.w l.initial.next l.next l.c l.side
