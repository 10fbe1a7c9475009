use native.Mathlib.Omega.{arith}
use Rattle.lease.proofs.Laws.{unheard, behind, to-come, by-age}
use Rattle.lease.proofs.Lease.fresh.Goals as goal

pub returns-then-self-ne1 : goal.returns-then-self-ne1
returns-then-self-ne1 c = unheard _ _ _ (λ e. omega arith)

pub returns-then-self : goal.returns-then-self
returns-then-self c = behind _ _ _ (omega arith) (omega arith)

pub returns-then-now-self : goal.returns-then-now-self
returns-then-now-self c = to-come _ _ _ (omega arith) (omega arith) (omega arith)

pub returns : goal.returns
returns c = by-age _ _ _ (omega arith) (omega arith) (omega arith)
