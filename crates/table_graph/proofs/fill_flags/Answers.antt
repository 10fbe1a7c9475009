use mathlib.Core.Path.{ap, ◌∙◌}
use Rattle.loops.proofs.Loops.{edited-start, filled-step, filled-end}
use Rattle.table_graph.specs.Graph.{flag}
use Rattle.table_graph.proofs.Graph.{byte_flag}
use Rattle.table_graph.proofs.fill_flags.Goals as goal

pub loop-i-init : goal.loop-i-init
loop-i-init c = edited-start

pub loop-i-preserved : goal.loop-i-preserved
loop-i-preserved c = filled-step c.loop-i.invariant _ c.loop-i-test.true (c.from.ensures ∙ byte_flag c.is_delocalized.result ∙ ap flag c.is_delocalized.ensures)

pub shape_of-flags : goal.shape_of-flags
shape_of-flags c = c.loop-i.invariant.room

pub returns : goal.returns
returns c = filled-end c.loop-i.invariant c.requires.room c.loop-i-test.false
