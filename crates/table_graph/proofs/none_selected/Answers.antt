use Rattle.std.proofs.Common.{rules}
use Rattle.table_graph.specs.Graph.{not_selected, none_selected}
use Rattle.table.proofs.Ranges.{all_in_range}
use Rattle.table_graph.proofs.none_selected.Goals as goal

pub returns : goal.returns
unfolding none_selected
returns c = all_in_range (not_selected c.args.atoms.now) c.args.n c.all.ensures.ran (λ x b q k. search rules)
