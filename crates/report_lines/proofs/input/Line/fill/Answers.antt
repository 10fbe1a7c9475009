use mathlib.Core.Path.{refl, ◌∙◌}
use native.Mathlib.Omega.{arith}
use lib.ListN.{length-set}
use Rattle.report_lines.specs.Cut.{gathered}
use Rattle.report_lines.proofs.Cut.{at-end, at_store, at-full, at-close}
use Rattle.report_lines.proofs.input.Line.fill.Goals as goal

pub loop-i-init : goal.loop-i-init
loop-i-init c = (refl, omega arith, (λ h. h), omega arith, c.requires.whole)

pub returns-then-b-eq10 : goal.returns-then-b-eq10
returns-then-b-eq10 c = record { is = c.loop-i.invariant.0 ∙ at-end (gathered c.loop-i.self) c.args.s.now c.loop-i.i (omega arith) c.if-b-eq10.true; reached = (omega arith, omega arith); bounded = record { short = omega arith; whole = c.loop-i.invariant.4 } }

pub loop-i-preserved : goal.loop-i-preserved
loop-i-preserved c = (c.loop-i.invariant.0 ∙ at_store c.loop-i.self.bytes c.args.s.now c.loop-i.self.len c.loop-i.i c.loop-i.invariant.4 (omega arith) (omega arith) c.if-b-eq10.false, omega arith, (λ h. omega arith), omega arith, simp length-set c.loop-i.invariant.4)

pub loop-i-preserved-then-n-ge-MAX_LINE : goal.loop-i-preserved-then-n-ge-MAX_LINE
loop-i-preserved-then-n-ge-MAX_LINE c = (c.loop-i.invariant.0 ∙ at-full c.loop-i.self.bytes c.args.s.now c.loop-i.self.len c.loop-i.i c.loop-i.invariant.4 (omega arith) (omega arith) (omega arith) c.if-b-eq10.false, omega arith, (λ h. omega arith), omega arith, c.loop-i.invariant.4)

pub returns : goal.returns
returns c = record { is = c.loop-i.invariant.0 ∙ at-close (gathered c.loop-i.self) c.args.s.now c.loop-i.i (omega arith); reached = (omega arith, λ h. omega arith); bounded = record { short = omega arith; whole = c.loop-i.invariant.4 } }
