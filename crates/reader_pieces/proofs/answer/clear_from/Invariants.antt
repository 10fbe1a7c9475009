use Rattle.reader_pieces.proofs.Cleared.{Clearing}
use Rattle.reader_pieces.proofs.answer.clear_from.Given as goal

abbrev pub invariant-loop-i : goal.invariant-loop-i
invariant-loop-i l = Clearing l.initial.t l.from l.i l.t
