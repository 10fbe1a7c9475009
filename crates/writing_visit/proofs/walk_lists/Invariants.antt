use Rattle.writing_visit.proofs.Roots.{Sofar}
use Rattle.writing_visit.specs.Visit.{Kept, walk_arrays}
use Rattle.writing_visit.specs.Wires.{wires}
use Rattle.writing_visit.proofs.walk_lists.Given as goal

abbrev pub invariant-loop-a : goal.invariant-loop-a
invariant-loop-a l = Sofar (wires l.wiring.first.now l.wiring.second.now l.wiring.kinds.now) l.n l.m (walk_arrays l.initial.order l.initial.number l.initial.up l.initial.kind 0) l.a (walk_arrays l.order l.number l.up l.kind l.count) × Kept l.initial.order l.initial.number l.initial.up l.initial.kind l.order l.number l.up l.kind
