use Rattle.loops.proofs.Loops.{Edited, fills}
use lib.ListN.{get_or}
use Prim.Native.Nat.{◌-◌}
use Rattle.writer.proofs.fill_numbers.Given as goal

abbrev pub invariant-loop-a : goal.invariant-loop-a
invariant-loop-a l = Edited (fills (λ i. get_or l.number i 0 - 1)) l.initial.ren l.n l.a l.ren
