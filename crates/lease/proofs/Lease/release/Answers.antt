use mathlib.Core.Path.{sym, ◌∙◌}
use native.Mathlib.Omega.{arith}
use Rattle.lease.proofs.Laws.{told-halted, told-withdrawn, told-undecided, told-yes, told-stale}
use Rattle.lease.proofs.Lease.release.Goals as goal

pub returns-then-self-gt1 : goal.returns-then-self-gt1
returns-then-self-gt1 c = told-halted _ _ _ _ (omega arith)

pub returns-then-verdict-eq1 : goal.returns-then-verdict-eq1
returns-then-verdict-eq1 c = told-withdrawn _ _ _ _ (omega arith) (omega arith)

pub returns-then-verdict-ne0 : goal.returns-then-verdict-ne0
returns-then-verdict-ne0 c = told-undecided _ _ _ _ (omega arith) (λ e. omega arith) (λ e. omega arith)

pub returns-then-fresh : goal.returns-then-fresh
returns-then-fresh c = rw c.age-age.ensures (told-yes _ _ _ _ (omega arith) (λ e. omega arith) (omega arith) (sym c.fresh.ensures ∙ c.if-fresh.true))

pub returns-else-fresh : goal.returns-else-fresh
returns-else-fresh c = rw c.age-age.ensures (told-stale _ _ _ _ (omega arith) (λ e. omega arith) (omega arith) (sym c.fresh.ensures ∙ c.if-fresh.false))
