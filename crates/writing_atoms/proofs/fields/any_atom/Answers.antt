use mathlib.Core.Path.{sym, ◌∙◌}
use Rattle.buffer.proofs.Laws.{as_is}
use Rattle.writing_atoms.proofs.Laws.{bare-atom, bracket-atom}
use Rattle.writing_atoms.proofs.fields.any_atom.Goals as goal

pub returns-then-is_outside : goal.returns-then-is_outside
returns-then-is_outside c = as_is (bare-atom _ _ _ _ _ _ (sym c.is_outside.ensures ∙ c.if-is_outside.true) c.atom_number-e.ensures c.atom_number.ensures) c.symbol.ensures

pub returns : goal.returns
returns c = as_is (bracket-atom _ _ _ _ (sym c.is_outside.ensures ∙ c.if-is_outside.false)) c.bracket.ensures
