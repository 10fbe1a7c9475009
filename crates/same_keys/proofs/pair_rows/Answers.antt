use native.Mathlib.Omega.{arith}
use Rattle.loops.proofs.Loops.{ran-start, ran-step, ran-end}
use Rattle.same_keys.specs.Keys.{pairs_filled}
use Rattle.same_keys.proofs.pair_rows.Goals as goal

pub loop-a-init : goal.loop-a-init
loop-a-init c = ran-start

pub pair_row-requires : goal.pair_row-requires
pair_row-requires c = record { inside = c.requires.inside; n_le_max_same = (c.requires.n_le_max_same.0, omega (arith, c.requires.n_le_max_same.0, c.loop-a-test.true), c.requires.n_le_max_same.1) }

pub loop-a-preserved : goal.loop-a-preserved
loop-a-preserved c = ran-step c.loop-a.invariant _ c.loop-a-test.true c.pair_row.ensures

pub returns : goal.returns
unfolding pairs_filled
returns c = ran-end c.loop-a.invariant c.loop-a-test.false
