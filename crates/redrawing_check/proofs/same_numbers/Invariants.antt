use Rattle.loops.proofs.Loops.{Left}
use Rattle.redrawing_check.specs.Certificate.{numbers_kept}
use Rattle.redrawing_check.proofs.same_numbers.Given as goal

abbrev pub invariant-loop-a : goal.invariant-loop-a
invariant-loop-a l = Left (numbers_kept l.numbers1 l.numbers2 l.t) l.n l.a
