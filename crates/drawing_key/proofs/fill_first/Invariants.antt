use Rattle.drawing_key.specs.Filled.{sum_key}
use Rattle.drawing_key.proofs.Making.{Replacing}
use Rattle.drawing_key.proofs.fill_first.Given as goal

abbrev pub invariant-loop-i : goal.invariant-loop-i
invariant-loop-i l = Replacing (sum_key l.atoms l.sums l.flags l.initial.keys) l.initial.keys l.n l.i l.keys
