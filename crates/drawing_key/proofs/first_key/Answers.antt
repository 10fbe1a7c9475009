use Prim.Native.Nat.{ℕ, ◌+◌, ◌*◌}
use native.Mathlib.Omega.{arith}
use mathlib.Core.Path.{ap, ◌∙◌}
use Rattle.same_keys.specs.Keys.{mixed}
use Rattle.same_keys.proofs.Mixing.{mixed-low}
use Rattle.drawing_key.specs.Key.{hashed}
use Rattle.drawing_key.proofs.first_key.Goals as goal

pub overflow_add-mix : goal.overflow_add-mix
overflow_add-mix c = omega (arith, c.mix.ensures, mixed-low c.cells_number.result, c.requires.sum_bound.0)

pub overflow_add-mix-2 : goal.overflow_add-mix-2
overflow_add-mix-2 c = omega (arith, c.mix.ensures, mixed-low c.cells_number.result, c.requires.sum_bound.0, c.requires.sum_bound.1)

pub returns : goal.returns
unfolding hashed
returns c = c.mix-2.ensures ∙ ap (λ (z : ℕ). mixed (z + c.args.sum * 1000 + c.args.degree)) (c.mix.ensures ∙ ap mixed c.cells_number.ensures)
