use Prim.Native.Nat.{◌-◌}
use lib.Dec.{ltb}
use lib.ListN.{length, get_or}
use Rattle.loops.specs.Loop.{pick}
use Rattle.loops.proofs.Loops.{Edited, fills}
use Rattle.same.proofs.hand_out.Given as goal

abbrev pub invariant-loop-i : goal.invariant-loop-i
invariant-loop-i l = Edited (fills (λ j. pick (ltb j l.n) (get_or l.found j 0) 0)) l.initial.ren (length l.initial.ren) l.i l.ren
