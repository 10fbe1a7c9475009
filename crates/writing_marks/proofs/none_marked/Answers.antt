use native.Mathlib.Omega.{arith}
use mathlib.Core.Path.{sym, ◌∙◌}
use borrow.Author.Tests.{eq-eqb, ne_eqb}
use Rattle.loops.proofs.Loops.{left-start, left-pass, left-fail, left_end}
use Rattle.writing_marks.proofs.none_marked.Goals as goal

pub loop-a-init : goal.loop-a-init
loop-a-init c = left-start

pub atom_number-requires : goal.atom_number-requires
atom_number-requires c = (omega arith, omega arith)

pub returns-then-atom_number-ne0 : goal.returns-then-atom_number-ne0
returns-then-atom_number-ne0 c = sym (left-fail c.loop-a.invariant c.loop-a-test.true (ne_eqb _ 0 (λ e. c.if-atom_number-ne0.true (c.atom_number.ensures ∙ e))))

pub loop-a-preserved : goal.loop-a-preserved
loop-a-preserved c = left-pass c.loop-a.invariant c.loop-a-test.true (eq-eqb _ 0 (sym c.atom_number.ensures ∙ c.if-atom_number-ne0.false))

pub returns : goal.returns
returns c = sym (left_end c.loop-a.invariant c.loop-a-test.false)
