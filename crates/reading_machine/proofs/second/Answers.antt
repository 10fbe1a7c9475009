use mathlib.Core.Path.{sym, ◌∙◌}
use mathlib.Core.Logic.{⊎_elim}
use Rattle.reading_machine.proofs.Letters.{long-second, star-second, brief-second, selected-second, half-second, nothing-second}
use Rattle.reading_machine.proofs.second.Goals as goal

pub returns-in-Long : goal.returns-in-Long
returns-in-Long c = long-second _ _ (sym c.lookup.ensures ∙ c.in-Long.is)

pub returns-in-Brief : goal.returns-in-Brief
returns-in-Brief c = star-second _ _ c.if-a-eq42.true

pub returns-in-Brief-2 : goal.returns-in-Brief-2
returns-in-Brief-2 c = c.marking.ensures ∙ brief-second _ _ (sym c.lookup.ensures ∙ c.in-Brief-2.is) c.if-a-eq42.false

pub returns-in-Selected : goal.returns-in-Selected
returns-in-Selected c =
    ⊎_elim (λ w. selected-second _ _ (sym c.lookup.ensures ∙ w.1)) (⊎_elim (λ e. half-second _ _ (sym c.lookup.ensures ∙ e)) (λ e. nothing-second _ _ (sym c.lookup.ensures ∙ e))) c.in-Selected.is
