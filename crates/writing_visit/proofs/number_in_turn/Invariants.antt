use Rattle.writing_visit.specs.Straight.{InTurn}
use lib.ListN.{length}
use mathlib.Core.Path.{◌≡◌}
use Rattle.writing_visit.proofs.number_in_turn.Given as goal

abbrev pub invariant-loop-a : goal.invariant-loop-a
invariant-loop-a l = (length l.order ≡ length l.initial.order) × ((length l.number ≡ length l.initial.number) × InTurn l.a l.order l.number)
