use Prim.Native.Nat.{◌-◌}
use Rattle.reader.proofs.Filling.{Filling}
use Rattle.reader.proofs.ending.hydrogenate.Given as goal

abbrev pub invariant-loop-i : goal.invariant-loop-i
invariant-loop-i l = Filling l.outsides l.sums l.initial.atoms l.n l.i l.atoms l.overfull
