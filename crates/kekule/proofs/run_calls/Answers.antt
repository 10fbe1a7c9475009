use Rattle.loops.proofs.Loops.{ran-end}
use Rattle.kekule.specs.Calls.{ran_of}
use Rattle.kekule.proofs.Calls.{calling-start, calling-step}
use Rattle.kekule.proofs.run_calls.Goals as goal

pub loop-i-init : goal.loop-i-init
loop-i-init c = calling-start

pub loop-i-preserved : goal.loop-i-preserved
loop-i-preserved c = calling-step c.loop-i.invariant c.loop-i-test.true c.call_of-c.ensures c.call.ensures c.call.auto.row c.found_code.ensures

pub shape_of-row : goal.shape_of-row
shape_of-row c = c.loop-i.invariant.row_same

pub shape_of-codes : goal.shape_of-codes
shape_of-codes c = c.loop-i.invariant.codes_same

pub returns : goal.returns
unfolding ran_of
returns c = ran-end c.loop-i.invariant.ran c.loop-i-test.false
