use mathlib.Core.Path.{refl}
use Rattle.report_entry.proofs.Calls.{said-as, row_fits, molecule-written, molecule-refused}
use Rattle.report_entry.proofs.report_molecule.Goals as goal

pub settle-c-requires : goal.settle-c-requires
settle-c-requires c = record { standing = c.requires; row_value = refl }

pub report_kekulized-requires : goal.report_kekulized-requires
report_kekulized-requires c = (row_fits c.requires c.settle-c.new.row c.settle-c.auto.row, c.settle-c.ensures.writable c.in-Ok.is)

pub returns-in-Ok : goal.returns-in-Ok
returns-in-Ok c = said-as (molecule-written _ _ _ _ _ _ _ _ _ c.settle-c.ensures c.in-Ok.is) c.report_kekulized.ensures

pub returns-in-Err : goal.returns-in-Err
returns-in-Err c = said-as (molecule-refused _ _ _ _ _ _ _ _ _ c.settle-c.ensures c.in-Err.is) c.refuse.ensures
