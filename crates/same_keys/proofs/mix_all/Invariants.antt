use Rattle.loops.proofs.Loops.{Edited, fills}
use Rattle.same_keys.specs.Keys.{mixed_at}
use Rattle.same_keys.proofs.mix_all.Given as goal

abbrev pub invariant-loop-i : goal.invariant-loop-i
invariant-loop-i l = Edited (fills (mixed_at l.keys)) l.initial.mixed l.n l.i l.mixed
