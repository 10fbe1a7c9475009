use mathlib.Core.Path.{◌∙◌}
use borrow.Author.Tests.{eq-eqb, ne_eqb}
use Rattle.table.specs.Edits.{doubled}
use Rattle.table_edits.proofs.kekulize.double_bond.Goals as goal

pub returns-then-x-ne1 : goal.returns-then-x-ne1
unfolding doubled
returns-then-x-ne1 c = simp (ne_eqb _ _ c.if-x-ne1.true)

pub returns : goal.returns
unfolding doubled
returns c = c.put_bond_cell.ensures ∙ simp (eq-eqb _ _ c.if-x-ne1.false)
