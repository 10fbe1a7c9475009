use lib.ListN.{get_or}
use Rattle.loops.proofs.Loops.{Edited}
use Rattle.folding.specs.Links.{none, move_atom}
use Rattle.folding.proofs.move_atoms.Given as goal

abbrev pub invariant-loop-i : goal.invariant-loop-i
invariant-loop-i l = Edited (λ a. move_atom (get_or l.numbers a none) a) l.initial.atoms l.n l.i l.atoms
