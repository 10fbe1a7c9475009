use Rattle.loops.proofs.Loops.{Left}
use Rattle.writing_marks.specs.Marks.{unmarked}
use Rattle.writing_marks.proofs.none_marked.Given as goal

abbrev pub invariant-loop-a : goal.invariant-loop-a
invariant-loop-a l = Left (unmarked l.atoms) l.n l.a
