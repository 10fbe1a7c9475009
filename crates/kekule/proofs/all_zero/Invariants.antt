use lib.ListN.{get_or}
use lib.Dec.{eqb}
use Rattle.loops.proofs.Loops.{Left}
use Rattle.kekule.proofs.all_zero.Given as goal

abbrev pub invariant-loop-i : goal.invariant-loop-i
invariant-loop-i l = Left (λ b. eqb (get_or l.row b 0) 0) l.m l.i
