use mathlib.Core.Path.{◌≡◌}
use lib.ListN.{length}
use Rattle.loops.proofs.Loops.{Edited, fills}
use Rattle.folding.specs.Links.{number_by}
use Rattle.folding.proofs.Links.{Turned}
use Rattle.folding.proofs.fold_atoms.Given as goal

abbrev pub invariant-loop-i : goal.invariant-loop-i
invariant-loop-i l = Turned l.links l.initial.atoms l.n l.i l.atoms l.k × Edited (fills (number_by l.links l.initial.atoms)) l.initial.numbers l.n l.i l.numbers × (length l.atoms ≡ length l.initial.atoms)
