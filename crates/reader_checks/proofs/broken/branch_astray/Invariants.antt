use lib.ListN.{get_or}
use lib.Dec.{ltb}
use Rattle.loops.proofs.Loops.{Left}
use Rattle.reader_checks.proofs.broken.branch_astray.Given as goal

abbrev pub invariant-loop-i : goal.invariant-loop-i
invariant-loop-i l = Left (λ k. ltb (get_or l.hubs k 0) l.n) l.depth l.i
