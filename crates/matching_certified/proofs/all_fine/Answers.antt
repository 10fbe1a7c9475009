use mathlib.Core.Path.{refl}
use native.Mathlib.Omega.{arith}
use Rattle.matching_search.proofs.Flags.{not-true, not-false}
use Rattle.matching_certified.proofs.Reason.{ends_at, fine-on, fine-off, fine_end}
use Rattle.matching_certified.proofs.all_fine.Goals as goal

pub loop-j-init : goal.loop-j-init
loop-j-init c = record { upto = c.requires.bond_tables.upto; same = refl }

pub passes-requires : goal.passes-requires
passes-requires c = record { ends = ends_at c.requires.bond_tables c.loop-j-test.true; k_in_bounds = (omega (arith, c.requires.bond_tables.third), c.requires.need_in_bounds) }

pub returns-then-not-passes : goal.returns-then-not-passes
returns-then-not-passes c = fine-off c.requires.bond_tables c.loop-j.invariant c.loop-j-test.true c.passes.ensures (not-true c.passes.result c.if-not-passes.true-raw)

pub loop-j-preserved : goal.loop-j-preserved
loop-j-preserved c = fine-on c.requires.bond_tables c.loop-j.invariant c.loop-j-test.true c.passes.ensures (not-false c.passes.result c.if-not-passes.false-raw)

pub returns : goal.returns
returns c = fine_end c.requires.bond_tables c.loop-j.invariant c.loop-j-test.false
