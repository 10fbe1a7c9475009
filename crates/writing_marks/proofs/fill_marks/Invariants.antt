use Rattle.loops.proofs.Loops.{Edited, fills}
use Rattle.table.specs.Orders.{turned_mark, at_end}
use Rattle.writing_marks.proofs.fill_marks.Given as goal

abbrev pub invariant-loop-a : goal.invariant-loop-a
invariant-loop-a l = Edited (fills (turned_mark (at_end l.ranks l.bonds) l.atoms l.bonds l.m)) l.initial.written l.n l.a l.written
