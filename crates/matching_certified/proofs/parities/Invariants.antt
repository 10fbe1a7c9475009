use lib.ListN.{length}
use Rattle.loops.proofs.Loops.{Edited}
use Rattle.matching.specs.Cut.{flips}
use Rattle.matching_certified.proofs.parities.Given as goal

abbrev pub invariant-loop-v : goal.invariant-loop-v
invariant-loop-v l = Edited (flips l.need l.lab) l.initial.odd (length l.need) l.v l.odd
