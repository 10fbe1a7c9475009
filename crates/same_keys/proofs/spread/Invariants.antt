use Rattle.same_keys.specs.Keys.{at, highest}
use Rattle.same_keys.proofs.Spreading.{Spreading}
use Rattle.same_keys.proofs.spread.Given as goal

abbrev pub invariant-loop-k : goal.invariant-loop-k
invariant-loop-k l = Spreading (at l.firsts) (at l.seconds) l.mixed l.initial.keys l.m (highest 78) l.k l.keys
