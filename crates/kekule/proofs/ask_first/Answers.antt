use mathlib.Core.Path.{sym, ◌∙◌}
use Rattle.kekule.proofs.Unselected.{unselected-first}
use Rattle.kekule.proofs.ask_first.Goals as goal

pub returns-then-none_selected : goal.returns-then-none_selected
returns-then-none_selected c = let a = c.args in
    unselected-first a.tables.atoms.now a.tables.bonds.now a.tables.n a.tables.m a.row.now (sym c.none_selected.ensures ∙ c.if-none_selected.true) c.requires.m_in_bounds c.give_zeros.ensures
