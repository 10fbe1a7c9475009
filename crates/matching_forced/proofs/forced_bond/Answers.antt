use Rattle.matching_forced.proofs.Tables.{bonds_long}
use Rattle.matching_forced.proofs.Tallies.{bond-of-one, no-one}
use Rattle.matching_forced.proofs.forced_bond.Goals as goal

pub returns-in_err-v : goal.returns-in_err-v
returns-in_err-v c = rw c.from_residual.ensures (no-one c.requires.counted.0 c.in_err-v.ensures)

pub returns : goal.returns
returns c = bond-of-one c.requires.counted.0 c.in_ok-v.v c.in_ok-v.ensures (bonds_long c.requires.bond_tables) c.free_bond.result c.free_bond.ensures
