use Prim.Native.Nat.{◌-◌}
use Rattle.loops.proofs.Loops.{Edited, fills}
use Rattle.same_finer.specs.Finer.{next_key}
use Rattle.same_finer.proofs.round.Given as goal

abbrev pub invariant-loop-a : goal.invariant-loop-a
invariant-loop-a l = Edited (fills (next_key l.w l.n l.old)) l.initial.keys l.n l.a l.keys
