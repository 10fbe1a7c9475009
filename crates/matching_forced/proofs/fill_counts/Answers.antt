use mathlib.Core.Path.{◌∙◌}
use native.Mathlib.Omega.{arith}
use Rattle.matching_forced.proofs.Tables.{ends_at, elided-at}
use Rattle.matching_forced.proofs.Tallies.{tallied-start, tallied-ends, tallied-yes, tallied-no, tallied-end}
use Rattle.matching_forced.proofs.fill_counts.Goals.{then-choosable, else-choosable}
use Rattle.matching_forced.proofs.fill_counts.Goals as goal

pub loop-i-init : goal.loop-i-init
loop-i-init c = tallied-start c.requires.by_index

pub choosable-requires : goal.choosable-requires
choosable-requires c = record { ends = ends_at c.requires.bond_tables c.loop-i.i c.loop-i-test.true; k_in_bounds = elided-at c.requires.bond_tables c.loop-i.i c.loop-i-test.true }

pub raise_ends-requires : goal.raise_ends-requires
raise_ends-requires c = record { ends = tallied-ends c.requires.bond_tables c.loop-i.invariant c.loop-i-test.true c.requires.need_in_bounds.0; by_index = λ v. omega (arith, c.loop-i.invariant.fewer v, c.loop-i-test.true, c.requires.need_in_bounds.1) }

pub loop-i-preserved : goal.loop-i-preserved
loop-i-preserved c = elim c.if-choosable.branch [
  | then-choosable w ↦ tallied-yes c.requires.bond_tables c.loop-i.invariant c.loop-i-test.true c.requires.need_in_bounds.0 c.choosable.ensures w.if-choosable.true (w.counts-is ∙ w.raise_ends.ensures)
  | else-choosable w ↦ tallied-no c.requires.bond_tables c.loop-i.invariant c.loop-i-test.true c.requires.need_in_bounds.0 c.choosable.ensures w.if-choosable.false w.counts-is
]

pub shape_of-counts : goal.shape_of-counts
shape_of-counts c = c.loop-i.invariant.long

pub returns : goal.returns
returns c = tallied-end c.requires.bond_tables c.loop-i.invariant c.loop-i-test.false
