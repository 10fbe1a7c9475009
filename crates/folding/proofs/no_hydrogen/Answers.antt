use mathlib.Core.Path.{sym, ◌∙◌}
use borrow.Author.Tests.{eq-eqb, ne_eqb}
use Rattle.loops.proofs.Loops.{left-pass, left-fail, left_end}
use Rattle.folding.specs.Links.{no_hydrogen}
use Rattle.folding.proofs.no_hydrogen.Goals as goal

pub returns-then-atom_number-eq1 : goal.returns-then-atom_number-eq1
unfolding no_hydrogen
returns-then-atom_number-eq1 c = sym (left-fail c.loop-i.invariant c.loop-i-test.true (simp (eq-eqb _ _ (sym c.atom_number.ensures ∙ c.if-atom_number-eq1.true))))

pub loop-i-preserved : goal.loop-i-preserved
loop-i-preserved c = left-pass c.loop-i.invariant c.loop-i-test.true (simp (ne_eqb _ _ (λ e. c.if-atom_number-eq1.false (c.atom_number.ensures ∙ e))))

pub returns : goal.returns
unfolding no_hydrogen
returns c = sym (left_end c.loop-i.invariant c.loop-i-test.false)
