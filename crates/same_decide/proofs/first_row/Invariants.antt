use mathlib.Core.Path.{◌≡◌}
use lib.ListN.{length}
use Rattle.table_graph.specs.Graph.{matching_of}
use Rattle.same_decide.specs.Decide.{sketch, has_second}
use Rattle.same_decide.proofs.Walk.{Walking, rest}
use Rattle.same_decide.proofs.first_row.Given as goal

abbrev pub invariant-loop-more : goal.invariant-loop-more
invariant-loop-more l = Walking (matching_of l.fn.pair.first.atoms.now l.fn.pair.first.bonds.now l.fn.pair.n l.fn.pair.first.m) l.fn.pair.first.m (has_second l.fn.pair.ok.now (sketch l.fn.pair.first.base.now l.fn.pair.first.keys.now l.fn.pair.first.bonds.now l.fn.pair.n l.fn.pair.first.m) l.fn.pair.second.atoms.now (sketch l.fn.pair.second.base.now l.fn.pair.second.keys.now l.fn.pair.second.bonds.now l.fn.pair.n l.fn.pair.second.m)) (length l.initial.row1) l.more l.row1 × (length l.row2 ≡ length l.initial.row2) × (length l.ren ≡ length l.initial.ren)

abbrev pub decreases-loop-more : goal.decreases-loop-more
decreases-loop-more l = length (rest (matching_of l.fn.pair.first.atoms.now l.fn.pair.first.bonds.now l.fn.pair.n l.fn.pair.first.m) l.fn.pair.first.m l.more l.row1)
