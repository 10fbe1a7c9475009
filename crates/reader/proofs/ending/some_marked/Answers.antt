use native.Mathlib.Omega.{arith}
use mathlib.Core.Path.{sym, ap, ◌∙◌}
use mathlib.Core.Bool.{not}
use borrow.Author.Tests.{eq-eqb, ne_eqb}
use Rattle.loops.proofs.Loops.{left-start, left-pass, left-fail, left_end}
use Rattle.reader.proofs.ending.some_marked.Goals as goal

pub loop-i-init : goal.loop-i-init
loop-i-init c = left-start

pub atom_number-requires : goal.atom_number-requires
atom_number-requires c = (omega arith, omega arith)

pub returns-then-atom_number-ne0 : goal.returns-then-atom_number-ne0
returns-then-atom_number-ne0 c = sym (ap not (left-fail c.loop-i.invariant c.loop-i-test.true (ne_eqb _ _ (λ e. c.if-atom_number-ne0.true (c.atom_number.ensures ∙ e)))))

pub loop-i-preserved : goal.loop-i-preserved
loop-i-preserved c = left-pass c.loop-i.invariant c.loop-i-test.true (eq-eqb _ _ (sym c.atom_number.ensures ∙ c.if-atom_number-ne0.false))

pub returns : goal.returns
returns c = sym (ap not (left_end c.loop-i.invariant c.loop-i-test.false))
