use native.Mathlib.Omega.{arith}
use Rattle.table.proofs.Keys.{sorted-start, sorted-step, sorted-rows, sorted_apart, never}
use Rattle.table_validity.proofs.sorted.Goals as goal

pub loop-i-init : goal.loop-i-init
loop-i-init c = sorted-start

pub valid_key-requires : goal.valid_key-requires
valid_key-requires c = (c.requires.0, omega arith)

pub returns-in-None : goal.returns-in-None
returns-in-None c = λ e. never e

pub returns-then-key-last : goal.returns-then-key-last
returns-then-key-last c = λ e. never e

pub loop-i-preserved : goal.loop-i-preserved
loop-i-preserved c = sorted-step c.loop-i.invariant _ c.loop-i-test.true c.if-key-last.false (λ _. c.valid_key.ensures _ c.in-Some.is)

pub returns : goal.returns
returns c = let v = c.loop-i.invariant in
    λ e. (sorted-rows v c.loop-i-test.false, sorted_apart v c.loop-i-test.false)
