use Prim.Native.Nat.{ℕ, ◌+◌, ◌*◌, ◌%◌}
use native.Mathlib.Omega.{arith}
use mathlib.Core.Path.{ap, ◌∙◌}
use Rattle.loops.proofs.Loops.{ran-step, ran-end}
use Rattle.same_keys.specs.Keys.{mixed, at}
use Rattle.same_keys.proofs.Mixing.{mixed-low}
use Rattle.drawing_key.specs.Key.{word, summed}
use Rattle.drawing_key.proofs.sum_up.Goals as goal

pub overflow_add-low : goal.overflow_add-low
overflow_add-low c = omega (arith, c.mix-x.ensures, mixed-low (at c.args.keys.now c.loop-i.i), c.loop-i.invariant.2, c.loop-i-test.true, c.requires.0)

pub overflow_add-x : goal.overflow_add-x
overflow_add-x c = omega (arith, c.mix-x.ensures, mixed-low (at c.args.keys.now c.loop-i.i))

pub overflow_add-high : goal.overflow_add-high
overflow_add-high c = omega (arith, c.mix-high.ensures, mixed-low (c.mix-x.result + 1), c.loop-i.invariant.3, c.loop-i-test.true, c.requires.0)

pub loop-i-preserved : goal.loop-i-preserved
loop-i-preserved c = let k = at c.args.keys.now c.loop-i.i in
    (ran-step c.loop-i.invariant.0 _ c.loop-i-test.true (ap (λ (z : ℕ). c.loop-i.low + z) c.mix-x.ensures), ran-step c.loop-i.invariant.1 _ c.loop-i-test.true (ap (λ (z : ℕ). c.loop-i.high + z) (c.mix-high.ensures ∙ ap (λ (z : ℕ). mixed (z + 1)) c.mix-x.ensures)), omega (arith, c.mix-x.ensures, mixed-low k, c.loop-i.invariant.2), omega (arith, c.mix-high.ensures, mixed-low (c.mix-x.result + 1), c.loop-i.invariant.3))

pub returns : goal.returns
unfolding summed
returns c = λ i. ran-end c.loop-i.invariant.1 c.loop-i-test.false i % word * word + ran-end c.loop-i.invariant.0 c.loop-i-test.false i % word
