use native.Mathlib.Omega.{arith}
use Rattle.loops.proofs.Loops.{ran-start, ran-step, ran-end}
use Rattle.same_keys.specs.Keys.{at, key_sum}
use Rattle.same_keys.proofs.Mixing.{mixed-low}
use mathlib.Core.Path.{ap}
use Prim.Native.Nat.{ℕ, ◌+◌}
use Rattle.same_keys.proofs.key_sum.Goals as goal

pub loop-i-init : goal.loop-i-init
loop-i-init c = (ran-start, omega arith)

pub overflow_add-sum : goal.overflow_add-sum
overflow_add-sum c = let k = c.args.keys.now in omega (arith, c.mix-sum.ensures, mixed-low (at k c.loop-i.i), c.loop-i.invariant.1, c.loop-i-test.true, c.requires)

pub loop-i-preserved : goal.loop-i-preserved
loop-i-preserved c = let v = c.loop-i in
    (ran-step v.invariant.0 _ c.loop-i-test.true (ap (λ (z : ℕ). v.sum + z) c.mix-sum.ensures), omega (arith, c.mix-sum.ensures, mixed-low (at c.args.keys.now v.i), v.invariant.1))

pub returns : goal.returns
unfolding key_sum
returns c = ran-end c.loop-i.invariant.0 c.loop-i-test.false
