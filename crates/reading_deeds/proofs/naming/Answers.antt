use mathlib.Core.Path.{sym, ◌∙◌}
use mathlib.Core.Logic.{⊎_elim}
use Rattle.reading_deeds.proofs.Laws.{symbol-first}
use Rattle.reading_deeds.proofs.naming.Goals as goal

pub returns-in-Brief : goal.returns-in-Brief
returns-in-Brief c = symbol-first _ _ (sym c.lookup.ensures ∙ c.in-Brief.is) c.with_element.ensures

pub returns-in-Selected : goal.returns-in-Selected
returns-in-Selected c = symbol-first _ _ (sym c.lookup.ensures ∙ c.in-Selected.is) c.with_element-in-Selected.ensures

pub returns-in-Long : goal.returns-in-Long
returns-in-Long c = let q = c.with_element-in-Long.ensures in
    ⊎_elim (λ w. symbol-first _ _ (sym c.lookup.ensures ∙ w.1) q) (⊎_elim (λ e. symbol-first _ _ (sym c.lookup.ensures ∙ e) q) (λ e. symbol-first _ _ (sym c.lookup.ensures ∙ e) q)) c.in-Long.is
