use Rattle.writing_visit.proofs.Wires.{Joined, LinkedLengths}
use Rattle.writing_visit.proofs.link.Given as goal

abbrev pub invariant-loop-b : goal.invariant-loop-b
invariant-loop-b l = Joined l.bonds l.m l.b l.head l.after l.behind × LinkedLengths l.initial.head l.initial.after l.initial.behind l.head l.after l.behind
