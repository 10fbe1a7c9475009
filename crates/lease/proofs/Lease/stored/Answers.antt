use mathlib.Core.Path.{◌∙◌}
use native.Mathlib.Omega.{arith}
use Rattle.lease.proofs.Laws.{stored-halted, stored-gap, stored_next}
use Rattle.lease.proofs.Lease.stored.Goals as goal

pub returns-then-self-gt1 : goal.returns-then-self-gt1
returns-then-self-gt1 c = c.halt.ensures ∙ stored-halted _ _ (omega arith)

pub returns-then-number-self : goal.returns-then-number-self
returns-then-number-self c = c.halt-then-number-self.ensures ∙ stored-gap _ _ (omega arith) (λ e. omega arith)

pub returns-then-number-self-eq1 : goal.returns-then-number-self-eq1
returns-then-number-self-eq1 c = stored_next _ _ (omega arith) (omega arith)

pub returns-else-number-self-eq1 : goal.returns-else-number-self-eq1
returns-else-number-self-eq1 c = c.halt-else-number-self-eq1.ensures ∙ stored-gap _ _ (omega arith) (λ e. omega arith)
