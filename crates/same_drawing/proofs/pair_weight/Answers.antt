use native.Mathlib.Omega.{arith}
use mathlib.Core.Path.{ap}
use Prim.Native.Nat.{ℕ, ◌+◌, ◌*◌}
use native.Mathlib.Nat.{mul-le-mul}
use lib.ListN.{get_or}
use Rattle.same_keys.specs.Keys.{prime}
use Rattle.same_keys.proofs.Mixing.{mixed-low}
use Rattle.same_drawing.proofs.pair_weight.Goals as goal

pub overflow_add-keys : goal.overflow_add-keys
overflow_add-keys c = omega (arith, c.requires.low.at c.args.a, c.requires.low.at c.args.b)

pub overflow_mul-result : goal.overflow_mul-result
overflow_mul-result c = let l = mixed-low (get_or c.args.keys.now c.args.a 0 + get_or c.args.keys.now c.args.b 0) in
    omega (arith, mul-le-mul {n₁ = c.args.x} {m₁ = c.mix.result} {n₂ = 3} {m₂ = prime} c.requires.a_lt_max_same.2 (omega (arith, l, c.mix.ensures)))

pub returns : goal.returns
returns c = ap (λ (z : ℕ). c.args.x * z) c.mix.ensures
