use Rattle.same_keys.specs.Keys.{at}
use Rattle.same_keys.proofs.Spreading.{Refining}
use Rattle.same_keys.proofs.refine.Given as goal

abbrev pub invariant-loop-i : goal.invariant-loop-i
invariant-loop-i l = Refining (at l.fn.ends.firsts.now) (at l.fn.ends.seconds.now) l.fn.ends.m l.n l.r l.initial.mixed l.initial.keys l.i l.mixed l.keys
