use borrow.Author.Tests.{ne_eqb}
use Rattle.writing_atoms.specs.Fields.{capital}
use Rattle.writing_atoms.proofs.fields.capital.Goals as goal

pub returns-in-6 : goal.returns-in-6
unfolding capital
returns-in-6 c = rw c.in-6.is

pub returns-in-7 : goal.returns-in-7
unfolding capital
returns-in-7 c = rw c.in-7.is

pub returns-in_default : goal.returns-in_default
unfolding capital
returns-in_default c = simp (ne_eqb _ _ c.in_default.in_default-own.rest.0.1, ne_eqb _ _ c.in_default.in_default-own.rest.1)
