use Rattle.reader.proofs.Ranks.{Ranking}
use Rattle.reader.proofs.ending.rank_bonds.Given as goal

abbrev pub invariant-loop-i : goal.invariant-loop-i
invariant-loop-i l = Ranking l.bonds l.m l.initial.keys l.i l.keys
