use Rattle.loops.proofs.Loops.{Ran}
use Rattle.same_keys.specs.Keys.{pair_cell, set_cell}
use Rattle.same_keys.proofs.fill_row.Given as goal

abbrev pub invariant-loop-b : goal.invariant-loop-b
invariant-loop-b l = Ran (set_cell (pair_cell l.keys) l.a) l.initial.pairs l.n l.b l.pairs
