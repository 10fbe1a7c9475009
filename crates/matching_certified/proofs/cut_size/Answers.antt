use native.Mathlib.Omega.{arith}
use Rattle.matching_certified.proofs.Count.{count-step, count-end}
use Rattle.matching_certified.proofs.cut_size.Goals as goal

pub overflow_add-n : goal.overflow_add-n
overflow_add-n c = omega (arith, (count-step c.loop-v.invariant c.loop-v-test.true c.requires c.in_cut-x.ensures).small, c.well_formed.0.0)

pub loop-v-preserved : goal.loop-v-preserved
loop-v-preserved c = count-step c.loop-v.invariant c.loop-v-test.true c.requires c.in_cut-x.ensures

pub returns : goal.returns
returns c = count-end c.loop-v.invariant c.loop-v-test.false
