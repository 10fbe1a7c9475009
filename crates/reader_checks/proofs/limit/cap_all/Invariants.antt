use lib.ListN.{get_or, set}
use Rattle.loops.proofs.Loops.{Ran}
use Rattle.reading_pieces.specs.State.{cap}
use Rattle.reader_checks.proofs.limit.cap_all.Given as goal

abbrev pub invariant-loop-i : goal.invariant-loop-i
invariant-loop-i g l = Ran (λ k t. set t k (cap (get_or t k 0))) l.initial.l g.row.N l.i l.l
