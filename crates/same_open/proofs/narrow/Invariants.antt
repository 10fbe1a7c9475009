use Prim.Native.Nat.{◌-◌}
use Rattle.same_open.proofs.Seeking.{Narrowed}
use Rattle.same_open.proofs.narrow.Given as goal

abbrev pub invariant-loop-b : goal.invariant-loop-b
invariant-loop-b l = Narrowed l.p l.allowed l.cand l.n l.v l.d l.next l.live l.b
