use Rattle.std.proofs.Common.{◌-◌}
use Rattle.same_search.proofs.Brief.{Briefly}
use Rattle.same_search.proofs.+search_briefly.Given as goal

abbrev pub decreases-search_briefly : goal.decreases-search_briefly
decreases-search_briefly l = l.sides.n - l.from

abbrev pub invariant-loop-d : goal.invariant-loop-d
invariant-loop-d l = Briefly l.sides.o1.now l.sides.o2.now l.sides.ok.now l.sides.n l.from l.initial.ren l.ren l.left l.d
