use mathlib.Core.Path.{◌∙◌}
use borrow.Author.Tests.{lt-ltb}
use Rattle.table.specs.Limits.{max_bonds}
use Rattle.table.specs.Rows.{bond_at}
use Rattle.table.specs.Valid.{bond_ok, bond_row_ok}
use Rattle.table_validity.proofs.bond_ok.Goals as goal

pub bond_row_ok-requires : goal.bond_row_ok-requires
bond_row_ok-requires c = c.get_bond.ensures.bond_fits

pub returns : goal.returns
unfolding bond_at bond_ok bond_row_ok
returns c = c.bond_row_ok.ensures ∙ simp c.get_bond.ensures.value (simp (lt-ltb c.args.b.0 max_bonds c.requires))
