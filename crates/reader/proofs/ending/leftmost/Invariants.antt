use Prim.Native.Nat.{◌-◌}
use lib.ListN.{get_or}
use Rattle.loops.proofs.Loops.{Ran}
use Rattle.ids.specs.Limits.{bridges, max_text}
use Rattle.reading.specs.Read.{earlier}
use Rattle.reader.proofs.ending.leftmost.Given as goal

abbrev pub invariant-loop-i : goal.invariant-loop-i
invariant-loop-i l = Ran (λ r q. earlier q (get_or l.openers r 0) (get_or l.offsets r 0)) max_text bridges l.i l.p
