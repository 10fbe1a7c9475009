use Prim.Native.Nat.{◌-◌}
use Rattle.same_drawing.proofs.Matrix.{Drawing}
use Rattle.same_drawing.proofs.fill_orders.Given as goal

abbrev pub invariant-loop-k : goal.invariant-loop-k
invariant-loop-k l = Drawing l.bonds l.row l.initial.o l.m l.k l.o
