use mathlib.Core.Path.{◌∙◌}
use lib.ListN.{length}
use Rattle.table_validity.proofs.Degrees.{ends, counts-code}
use Rattle.table_validity.proofs.late.check_counts_in.Goals as goal

pub count_bonds-requires : goal.count_bonds-requires
count_bonds-requires c = record { ends = ends c.requires.valid c.requires.n_in_bounds.0; degrees_value = c.requires.n_in_bounds.1 }

pub returns : goal.returns
returns c = c.check_degrees.ensures ∙ counts-code c.args.tables.atoms.now c.args.tables.bonds.now c.args.tables.n c.args.tables.m (length c.args.degrees.now) c.count_bonds.ensures c.requires.n_in_bounds.0
