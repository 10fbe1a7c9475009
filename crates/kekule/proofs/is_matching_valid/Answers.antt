use mathlib.Core.Path.{sym, ◌∙◌}
use Rattle.kekule.proofs.Unselected.{unselected-matching}
use Rattle.kekule.proofs.is_matching_valid.Goals as goal

pub returns-then-none_selected : goal.returns-then-none_selected
returns-then-none_selected c = let a = c.args in
    c.all_zero.ensures ∙ unselected-matching a.tables.atoms.now a.tables.bonds.now a.tables.n a.tables.m a.row.now (sym c.none_selected.ensures ∙ c.if-none_selected.true) c.requires.m_in_bounds
