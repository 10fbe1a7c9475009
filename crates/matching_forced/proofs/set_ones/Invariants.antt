use lib.ListN.{set}
use Rattle.matching_forced.proofs.Listed.{Backward}
use Rattle.matching_forced.proofs.set_ones.Given as goal

abbrev pub invariant-loop-i : goal.invariant-loop-i
invariant-loop-i l = Backward (λ k r. set r k 1) l.initial.row l.pairs l.n l.i l.row
