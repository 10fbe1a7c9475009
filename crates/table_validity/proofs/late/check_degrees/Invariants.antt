use Rattle.table_validity.proofs.Degrees.{Degrees}
use Rattle.table_validity.proofs.late.check_degrees.Given as goal

abbrev pub invariant-loop-i : goal.invariant-loop-i
invariant-loop-i l = Degrees l.atoms l.degrees l.n l.i l.fit
