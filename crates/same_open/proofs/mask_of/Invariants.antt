use mathlib.Core.Bool.{false}
use Rattle.same_open.proofs.Masks.{Masked}
use Rattle.same_open.proofs.mask_of.Given as goal

abbrev pub invariant-loop-e : goal.invariant-loop-e
invariant-loop-e g l = Masked (λ x. goal.F-post g l.test x false → ⊥) l.n l.mask l.e
