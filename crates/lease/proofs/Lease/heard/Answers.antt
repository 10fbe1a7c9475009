use mathlib.Core.Path.{◌∙◌}
use native.Mathlib.Omega.{arith}
use Rattle.lease.proofs.Laws.{heard-halted, heard-back, heard-below, heard-on}
use Rattle.lease.proofs.Lease.heard.Goals as goal

pub returns-then-self-gt1 : goal.returns-then-self-gt1
returns-then-self-gt1 c = c.halt.ensures ∙ heard-halted _ _ _ (omega arith)

pub returns-then-head-self : goal.returns-then-head-self
returns-then-head-self c = c.halt-then-head-self.ensures ∙ heard-back _ _ _ (omega arith) (omega arith)

pub returns-then-head-self-2 : goal.returns-then-head-self-2
returns-then-head-self-2 c = c.halt-then-head-self-2.ensures ∙ heard-below _ _ _ (omega arith) (omega arith) (omega arith)

pub returns : goal.returns
returns c = heard-on _ _ _ (omega arith) (omega arith) (omega arith)
