use Rattle.loops.proofs.Loops.{Edited}
use lib.ListN.{get_or, set}
use Rattle.writer.proofs.nest.last_children.Given as goal

abbrev pub invariant-loop-x : goal.invariant-loop-x
invariant-loop-x l = Edited (λ i z. set z (get_or l.up i 0) i) l.initial.last l.n l.x l.last
