use Prim.Native.Nat.{◌-◌}
use mathlib.Core.Path.{◌≡◌}
use Rattle.same_model.specs.Same.{image}
use Rattle.same_mirror.proofs.Checking.{All}
use Rattle.same_mirror.proofs.is_own.Given as goal

abbrev pub invariant-loop-e : goal.invariant-loop-e
invariant-loop-e l = All (λ x. image l.like x ≡ image l.like l.d → ⊥) l.d l.e
