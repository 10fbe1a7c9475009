use Rattle.table.specs.Orders.{at_end}
use Rattle.table_orders.proofs.Laws.{Turning}
use Rattle.table_orders.proofs.turn_marks.Given as goal

abbrev pub invariant-loop-i : goal.invariant-loop-i
invariant-loop-i l = Turning (at_end l.ranks l.bonds) l.bonds l.m l.n l.initial.atoms l.i l.atoms
