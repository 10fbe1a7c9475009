use Rattle.standard.proofs.Calls.{blank-tables, blank-read}
use Rattle.report_entry.proofs.Calls.{said-as, reported, read-refused, read-molecule, read-stands}
use Rattle.report_entry.proofs.report_line.Goals as goal

pub read_zeroed-a-requires : goal.read_zeroed-a-requires
read_zeroed-a-requires c = blank-tables

pub report_molecule-requires : goal.report_molecule-requires
report_molecule-requires c = read-stands _ _ _ _ (blank-read c.args.s.now c.read_zeroed-a.ensures) c.in-Ok.is

pub returns-in-Err : goal.returns-in-Err
returns-in-Err c = reported (said-as (read-refused _ _ _ _ (blank-read c.args.s.now c.read_zeroed-a.ensures) c.in-Err.is) c.refuse.ensures)

pub returns-in-Ok : goal.returns-in-Ok
returns-in-Ok c = reported (said-as (read-molecule _ _ _ _ (blank-read c.args.s.now c.read_zeroed-a.ensures) c.in-Ok.is) c.report_molecule.ensures)
