use Rattle.writing_visit.proofs.Wires.{Noted, NotedLengths}
use Rattle.writing_visit.proofs.note.Given as goal

abbrev pub invariant-loop-b : goal.invariant-loop-b
invariant-loop-b l = Noted l.bonds l.m l.b l.ea l.eb l.ks l.sums × NotedLengths l.initial.ea l.initial.eb l.initial.ks l.initial.sums l.ea l.eb l.ks l.sums
