use Rattle.buffer.proofs.Laws.{as_is}
use Rattle.writing_atoms.proofs.Laws.{chosen, plain}
use Rattle.writing_atoms.proofs.fields.symbol.Goals as goal

pub returns-then-selected-eq1 : goal.returns-then-selected-eq1
returns-then-selected-eq1 c = as_is (chosen _ _ _ c.if-selected-eq1.true c.spell_selected.ensures) c.spelled.ensures

pub returns : goal.returns
returns c = as_is (plain _ _ _ c.if-selected-eq1.false c.spell.ensures) c.spelled-2.ensures
