use Prim.Native.Nat.{ℕ}
use mathlib.Core.Path.{subst}
use native.Mathlib.Omega.{arith}
use Rattle.report_lines.specs.Cut.{Ends}
use Rattle.report_lines.proofs.Ends.{seeks-start, seeks-byte, seeks-end, seeks-over}
use Rattle.report_lines.proofs.input.line_end.Goals as goal

pub loop-i-init : goal.loop-i-init
loop-i-init c = seeks-start _ _ c.requires

pub returns-then-s-i-eq10 : goal.returns-then-s-i-eq10
returns-then-s-i-eq10 c = seeks-end c.loop-i.invariant c.loop-i-test.true c.if-s-i-eq10.true

pub loop-i-preserved : goal.loop-i-preserved
loop-i-preserved c = seeks-byte c.loop-i.invariant c.loop-i-test.true c.if-s-i-eq10.false

pub returns : goal.returns
returns c = subst (λ (r : ℕ). Ends c.args.s.now c.args.from r) (omega arith) (seeks-over c.loop-i.invariant c.requires c.loop-i-test.false)
