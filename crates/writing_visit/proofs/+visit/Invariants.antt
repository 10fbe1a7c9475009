use Rattle.writing_visit.specs.Visit.{unseen, Kept, walk_arrays}
use Rattle.writing_visit.specs.Wires.{wires}
use Rattle.writing_visit.proofs.Laws.{Left, ahead}
use Rattle.writing_visit.proofs.+visit.Given as goal

abbrev pub invariant-loop-b : goal.invariant-loop-b
invariant-loop-b l = Left (wires l.wiring.first.now l.wiring.second.now l.wiring.kinds.now) l.n l.m l.initial.here l.initial.parent l.initial.b l.here l.parent l.b (walk_arrays l.initial.order l.initial.number l.initial.up l.initial.kind l.initial.next) (walk_arrays l.order l.number l.up l.kind l.next) × Kept l.initial.order l.initial.number l.initial.up l.initial.kind l.order l.number l.up l.kind

abbrev pub decreases-loop-b : goal.decreases-loop-b
decreases-loop-b l = ahead l.number l.m l.b

abbrev pub decreases-visit : goal.decreases-visit
decreases-visit l = unseen l.number.now
