use Prim.Native.Nat.{◌-◌}
use Rattle.reader.proofs.Ends.{Closed}
use Rattle.reader.proofs.ending.all_closed.Given as goal

abbrev pub invariant-loop-i : goal.invariant-loop-i
invariant-loop-i l = Closed l.openers l.i l.closed
