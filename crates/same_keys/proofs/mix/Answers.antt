use Prim.Native.Nat.{◌%◌}
use native.Mathlib.Omega.{arith}
use native.Mathlib.Nat.{mod-lt}
use mathlib.Core.Path.{refl}
use Rattle.same_keys.specs.Keys.{prime, mixed}
use Rattle.same_keys.proofs.Mixing.{square-low}
use Rattle.same_keys.proofs.mix.Goals as goal

pub overflow_mul-result : goal.overflow_mul-result
overflow_mul-result c = let x = c.args.x in omega (arith, square-low (x % prime) (mod-lt x {m = prime} (omega arith)))

pub overflow_add-result : goal.overflow_add-result
overflow_add-result c = let x = c.args.x in omega (arith, square-low (x % prime) (mod-lt x {m = prime} (omega arith)), mod-lt x {m = prime} (omega arith))

pub overflow_add-result-2 : goal.overflow_add-result-2
overflow_add-result-2 c = let x = c.args.x in omega (arith, square-low (x % prime) (mod-lt x {m = prime} (omega arith)), mod-lt x {m = prime} (omega arith))

pub returns : goal.returns
unfolding mixed
returns c = refl
