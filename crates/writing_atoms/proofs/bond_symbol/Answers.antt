use mathlib.Core.Path.{refl, sym, ◌∙◌}
use Rattle.kinds.proofs.Kind.{none-given, some-given}
use Rattle.buffer.proofs.Laws.{as_is, nothing}
use Rattle.writing_atoms.proofs.Laws.{no_symbol, one_symbol}
use Rattle.writing_atoms.proofs.bond_symbol.Goals as goal

pub returns-in-None : goal.returns-in-None
returns-in-None c = as_is (no_symbol _ _ refl (none-given c.symbol.ensures c.in-None.is)) (nothing)

pub returns-in-Some : goal.returns-in-Some
returns-in-Some c = let g = some-given c.symbol.ensures c.in-Some.is in as_is (one_symbol _ _ g.0 (λ e. g.1 (sym g.0 ∙ e))) c.put.ensures
