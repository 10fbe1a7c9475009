use native.Mathlib.Omega.{arith}
use Rattle.writing_atoms.proofs.Common.{capital-low, letter-by}
use Rattle.writing_atoms.proofs.fields.common_letter.Goals as goal

pub overflow_add-result : goal.overflow_add-result
overflow_add-result c = record { fits = omega (arith, c.capital.ensures, capital-low c.args.e, c.requires) }

pub returns : goal.returns
returns c = letter-by _ _ _ c.requires.le_e.0 c.requires.le_e.1 c.requires.selected_bound c.capital.ensures
