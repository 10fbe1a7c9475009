use Rattle.loops.proofs.Loops.{Edited, fills}
use Rattle.table_graph.specs.Built.{sum_flag}
use Rattle.table_graph.proofs.fill_flags.Given as goal

abbrev pub invariant-loop-i : goal.invariant-loop-i
invariant-loop-i l = Edited (fills (sum_flag l.atoms l.sums)) l.initial.flags l.n l.i l.flags
