use mathlib.Core.Path.{◌∙◌}
use Rattle.table_graph.proofs.Sums.{row-cells}
use Rattle.writing_visit.proofs.read_bond.Goals as goal

pub returns : goal.returns
returns c = let g = c.get_bond-row in
    let r = row-cells c.args.bonds.now c.args.b.0 g.result (g.ensures.value, g.ensures.bond_fits) c.requires in
    record { first_value = (c.number.ensures ∙ r.0, c.number-2.ensures ∙ r.1); kind_value = c.number-3.ensures ∙ r.2 }
