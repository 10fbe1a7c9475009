use lib.ListN.{length}
use Rattle.redrawing_check.proofs.Checking.{Permuting}
use Rattle.redrawing_check.proofs.permutes_in.Given as goal

abbrev pub invariant-loop-a : goal.invariant-loop-a
invariant-loop-a l = Permuting l.list l.n (length l.initial.seen) l.a l.seen
