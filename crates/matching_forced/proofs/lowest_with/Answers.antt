use Rattle.matching_forced.proofs.Counts.{sought-start, sought-step, sought-here, sought-end, none-lowest}
use Rattle.matching_forced.proofs.Tallies.{counted-as}
use Rattle.matching_forced.proofs.lowest_with.Goals as goal

pub loop-v-init : goal.loop-v-init
loop-v-init c = sought-start

pub returns-then-unpaired-counts : goal.returns-then-unpaired-counts
returns-then-unpaired-counts c = (sought-here c.loop-v.invariant c.loop-v-test.true (counted-as c.args.need.now c.args.counts.now c.args.d c.loop-v.v c.unpaired.ensures c.if-unpaired-counts.true), c.loop-v-test.true)

pub loop-v-preserved : goal.loop-v-preserved
loop-v-preserved c = sought-step c.loop-v.invariant c.loop-v-test.true (counted-as c.args.need.now c.args.counts.now c.args.d c.loop-v.v c.unpaired.ensures c.if-unpaired-counts.false)

pub returns : goal.returns
returns c = none-lowest (sought-end c.loop-v.invariant c.loop-v-test.false)
