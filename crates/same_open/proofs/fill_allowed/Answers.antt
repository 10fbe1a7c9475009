use native.Mathlib.Omega.{arith}
use Rattle.same_open.proofs.Seeking.{filled-start, filled-step, filled-skip, allowed-end}
use Rattle.same_open.proofs.fill_allowed.Goals as goal
use Rattle.same_open.proofs.fill_allowed.Goals.{then-i-n, else-i-n}

pub loop-i-init : goal.loop-i-init
loop-i-init c = filled-start

pub facing-requires : goal.facing-requires
facing-requires c = (c.requires, c.if-i-n.true, omega (arith, c.loop-i-test.true))

pub loop-i-preserved : goal.loop-i-preserved
loop-i-preserved c = elim c.if-i-n.branch [ then-i-n w ↦ filled-step c.loop-i.invariant c.loop-i-test.true (omega (arith, c.loop-i-test.true)) w.allowed-is (λ h. w.facing.ensures) | else-i-n w ↦ filled-skip c.loop-i.invariant c.loop-i-test.true w.allowed-is (λ h. absurd (omega (arith, w.if-i-n.false))) ]

pub returns : goal.returns
returns c = allowed-end c.requires c.loop-i.invariant c.loop-i-test.false
