use Prim.Native.Nat.{◌-◌}
use Rattle.loops.proofs.Loops.{Ran}
use Rattle.conformation.specs.Sides.{none_yet, lower}
use Rattle.conformation.proofs.lowest_of.Given as goal

abbrev pub invariant-loop-i : goal.invariant-loop-i
invariant-loop-i l = Ran (lower l.bonds l.a.0) none_yet l.m l.i l.w
