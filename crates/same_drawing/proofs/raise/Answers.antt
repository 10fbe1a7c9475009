use Prim.Native.Nat.{◌+◌, ◌*◌}
use native.Mathlib.Omega.{arith}
use Rattle.same_drawing.proofs.raise.Goals as goal

pub overflow_add-o : goal.overflow_add-o
overflow_add-o c = omega (arith, c.requires.a_lt_max_same.2, c.requires.low.at (64 * c.args.a + c.args.b))
