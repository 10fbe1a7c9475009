use Rattle.std.proofs.Common.{◌-◌}
use Rattle.same_mirror.proofs.Passing.{Passed}
use Rattle.same_mirror.proofs.+search.Given as goal

abbrev pub decreases-search : goal.decreases-search
decreases-search l = l.rest

abbrev pub invariant-loop-d : goal.invariant-loop-d
invariant-loop-d l = Passed l.quest.p.now l.quest.allowed.now l.cand l.quest.n l.v l.budget l.dead l.left l.d
