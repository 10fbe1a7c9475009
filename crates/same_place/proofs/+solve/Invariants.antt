use Rattle.std.proofs.Common.{◌-◌}
use Rattle.same_place.proofs.Laws.{Trying}
use Rattle.same_place.proofs.+solve.Given as goal

abbrev pub decreases-solve : goal.decreases-solve
decreases-solve l = l.n - l.from

abbrev pub invariant-loop-d : goal.invariant-loop-d
invariant-loop-d l = Trying l.o1 l.o2 l.ok l.n l.from l.initial.ren l.ren l.d
