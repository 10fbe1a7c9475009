use native.Mathlib.Omega.{arith}
use Rattle.matching_engine.proofs.Lasts.{stranded-none}
use Rattle.matching_engine.proofs.dead_end.Goals as goal

pub stranded-requires : goal.stranded-requires
stranded-requires c = rw c.end_of.ensures (c.requires.bond_tables.ends1 c.args.k.0 (omega (arith, c.requires.bond_tables.upto)))

pub returns-then-stranded : goal.returns-then-stranded
returns-then-stranded c = λ e. stranded-none c.requires.bond_tables c.requires.lasts (c.stranded.ensures c.if-stranded.true)

pub stranded-requires-2 : goal.stranded-requires-2
stranded-requires-2 c = rw c.end_of-2.ensures (c.requires.bond_tables.ends2 c.args.k.0 (omega (arith, c.requires.bond_tables.upto)))

pub returns : goal.returns
returns c = λ e. stranded-none c.requires.bond_tables c.requires.lasts (c.stranded-2.ensures e)
