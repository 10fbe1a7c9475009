use mathlib.Core.Path.{sym, ◌∙◌}
use mathlib.Core.Logic.{⊎_elim}
use Rattle.reading_deeds.proofs.Laws.{long-here, brief-on, selected-on, half-on, nothing-on}
use Rattle.reading_deeds.proofs.second.Goals as goal

pub returns-in-Long : goal.returns-in-Long
returns-in-Long c = long-here _ _ (sym c.lookup.ensures ∙ c.in-Long.is) c.with_element.ensures

pub returns-in-Brief : goal.returns-in-Brief
returns-in-Brief c = let q = c.marking.ensures in
    ⊎_elim (λ w. brief-on _ _ (sym c.lookup.ensures ∙ w.1) q)
    (⊎_elim (λ w. selected-on _ _ (sym c.lookup.ensures ∙ w.1) q) (⊎_elim (λ e. half-on _ _ (sym c.lookup.ensures ∙ e) q) (λ e. nothing-on _ _ (sym c.lookup.ensures ∙ e) q))) c.in-Brief.is
