use Prim.Native.Nat.{◌-◌}
use Rattle.same_support.proofs.Leaving.{Follows}
use Rattle.same_support.proofs.settle.Given as goal

abbrev pub invariant-loop-w : goal.invariant-loop-w
invariant-loop-w l = Follows l.quest.p.now l.quest.allowed.now l.quest.n l.initial.next l.next
