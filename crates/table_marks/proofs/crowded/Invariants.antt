use lib.Dec.{eqb}
use Rattle.loops.proofs.Counting.{Counted}
use Rattle.kinds.specs.Kind.{up, down}
use Rattle.table.specs.Marks.{side}
use Rattle.table_marks.proofs.crowded.Given as goal

abbrev pub invariant-loop-i : goal.invariant-loop-i
invariant-loop-i l = Counted (λ b. eqb (side l.bonds l.a.0 b) up) l.m l.i l.above × Counted (λ b. eqb (side l.bonds l.a.0 b) down) l.m l.i l.below
