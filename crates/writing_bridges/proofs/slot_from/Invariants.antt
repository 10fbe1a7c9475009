use Rattle.writing_bridges.specs.Slots.{Looked}
use Rattle.writing_bridges.proofs.slot_from.Given as goal

abbrev pub invariant-loop-i : goal.invariant-loop-i
invariant-loop-i l = Looked l.x l.slots l.i
