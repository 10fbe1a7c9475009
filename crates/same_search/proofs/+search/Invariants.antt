use Rattle.std.proofs.Common.{◌-◌}
use Rattle.same_search.proofs.Laws.{Searching}
use Rattle.same_search.proofs.+search.Given as goal

abbrev pub decreases-search : goal.decreases-search
decreases-search l = l.sides.n - l.from

abbrev pub invariant-loop-d : goal.invariant-loop-d
invariant-loop-d l = Searching l.sides.o1.now l.sides.o2.now l.sides.ok.now l.sides.n l.from l.initial.ren l.ren l.dead l.d
