use Rattle.matching.specs.Model.{mark_at}
use Rattle.matching_forced.proofs.Listed.{Backward}
use Rattle.matching_forced.proofs.undo.Given as goal

abbrev pub invariant-loop-i : goal.invariant-loop-i
invariant-loop-i l = Backward (λ k x. mark_at l.ends.first.now l.ends.second.now x k 1) l.initial.need l.pairs l.n l.i l.need
