use mathlib.Core.Path.{◌≡◌}
use lib.ListN.{length}
use Rattle.loops.proofs.Loops.{Edited, fills}
use Rattle.table.specs.Cells.{end1, end2}
use Rattle.table_graph.specs.Graph.{elided_flag}
use Rattle.table_graph.proofs.Sums.{sums_to}
use Rattle.table_graph.proofs.wire.Given as goal

abbrev pub invariant-loop-i : goal.invariant-loop-i
invariant-loop-i l = Edited (fills (end1 l.bonds)) l.initial.ea l.m l.i l.ea × Edited (fills (end2 l.bonds)) l.initial.eb l.m l.i l.eb × Edited (fills (elided_flag l.bonds)) l.initial.el l.m l.i l.el × (l.sums ≡ sums_to l.bonds l.i (length l.initial.sums))
