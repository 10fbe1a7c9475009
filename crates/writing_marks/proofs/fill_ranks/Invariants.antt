use mathlib.Core.Path.{◌≡◌}
use lib.ListN.{length}
use Rattle.writing_marks.specs.Marks.{Ranked}
use Rattle.writing_marks.proofs.fill_ranks.Given as goal

abbrev pub invariant-loop-b : goal.invariant-loop-b
invariant-loop-b l = Ranked l.bonds l.n l.m l.b l.ranks × (length l.ranks ≡ length l.initial.ranks)
