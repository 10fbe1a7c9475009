use Rattle.loops.proofs.Loops.{Left}
use Rattle.folding.specs.Links.{is_heavy}
use Rattle.folding.proofs.no_hydrogen.Given as goal

abbrev pub invariant-loop-i : goal.invariant-loop-i
invariant-loop-i l = Left (is_heavy l.atoms) l.n l.i
