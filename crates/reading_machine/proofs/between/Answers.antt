use mathlib.Core.Path.{sym, ◌∙◌}
use borrow.Author.Tests.{eq-eqb, ne_eqb}
use Rattle.reading_grammar.specs.Machine.{next}
use Rattle.reading_machine.proofs.between.Goals as goal

pub returns-then-is_bond_symbol : goal.returns-then-is_bond_symbol
unfolding next
returns-then-is_bond_symbol c = simp (sym c.is_bond_symbol.ensures ∙ c.if-is_bond_symbol.true)

pub returns-then-b-eq46 : goal.returns-then-b-eq46
unfolding next
returns-then-b-eq46 c = simp (sym c.is_bond_symbol.ensures ∙ c.if-is_bond_symbol.false, eq-eqb _ _ c.if-b-eq46.true)

pub returns-then-b-eq40 : goal.returns-then-b-eq40
unfolding next
returns-then-b-eq40 c = simp (sym c.is_bond_symbol.ensures ∙ c.if-is_bond_symbol.false, ne_eqb _ _ c.if-b-eq46.false, eq-eqb _ _ c.if-b-eq40.true)

pub returns-then-b-eq41 : goal.returns-then-b-eq41
unfolding next
returns-then-b-eq41 c = simp (sym c.is_bond_symbol.ensures ∙ c.if-is_bond_symbol.false, ne_eqb _ _ c.if-b-eq46.false, ne_eqb _ _ c.if-b-eq40.false, eq-eqb _ _ c.if-b-eq41.true)

pub returns : goal.returns
unfolding next
returns c = simp (sym c.is_bond_symbol.ensures ∙ c.if-is_bond_symbol.false, ne_eqb _ _ c.if-b-eq46.false, ne_eqb _ _ c.if-b-eq40.false, ne_eqb _ _ c.if-b-eq41.false, c.goes_on.ensures)
