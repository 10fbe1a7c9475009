use Rattle.table.proofs.Keys.{Sorted}
use Rattle.table_validity.proofs.sorted.Given as goal

abbrev pub invariant-loop-i : goal.invariant-loop-i
invariant-loop-i l = Sorted l.t l.n l.m l.i l.last
