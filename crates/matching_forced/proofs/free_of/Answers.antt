use mathlib.Core.Path.{sym}
use Rattle.matching_forced.proofs.Tables.{ends_at, elided-at, free-at}
use Rattle.matching_forced.proofs.free_of.Goals as goal

pub choosable-requires : goal.choosable-requires
choosable-requires c = record { ends = ends_at c.requires.bond_tables c.args.k.0 c.requires.k_in_bounds; k_in_bounds = elided-at c.requires.bond_tables c.args.k.0 c.requires.k_in_bounds }

pub returns : goal.returns
returns c = rw (c.choosable.ensures, c.end_of-first.ensures, c.end_of-second.ensures) (sym (free-at c.requires.bond_tables c.args.k.0 c.requires.k_in_bounds c.args.v.0))
