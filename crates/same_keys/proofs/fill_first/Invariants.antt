use Rattle.loops.proofs.Loops.{Edited, fills}
use Rattle.same_keys.specs.Keys.{sum_key}
use Rattle.same_keys.proofs.fill_first.Given as goal

abbrev pub invariant-loop-i : goal.invariant-loop-i
invariant-loop-i l = Edited (fills (sum_key l.atoms l.sums l.flags)) l.initial.keys l.n l.i l.keys
