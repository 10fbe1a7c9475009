use Prim.Native.Nat.{◌-◌}
use lib.ListN.{length}
use Rattle.loops.proofs.Loops.{Edited, fills}
use Rattle.same_part.specs.Value.{open_flag}
use Rattle.same_part.proofs.mark_open.Given as goal

abbrev pub invariant-loop-k : goal.invariant-loop-k
invariant-loop-k l = Edited (fills (open_flag l.links.ends.first.now l.links.ends.second.now l.links.elided.now l.need)) l.initial.opened (length l.links.ends.first.now) l.k l.opened
