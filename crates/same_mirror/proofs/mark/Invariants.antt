use Prim.Native.Nat.{◌-◌}
use Rattle.same_mirror.proofs.Passing.{Marked}
use Rattle.same_mirror.proofs.mark.Given as goal

abbrev pub invariant-loop-e : goal.invariant-loop-e
invariant-loop-e l = Marked l.quest.allowed.now l.cand l.quest.n l.turn.v l.d l.initial.dead l.budget l.dead l.left l.e
