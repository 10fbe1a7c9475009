use mathlib.Core.Path.{sym, ◌∙◌}
use mathlib.Core.Logic.{⊎_elim}
use Rattle.reading_machine.proofs.Letters.{long-first, brief-first, selected-symbol, half-symbol, no_symbol}
use Rattle.reading_machine.proofs.symbol_or.Goals as goal

pub returns-in-Long : goal.returns-in-Long
returns-in-Long c = ⊎_elim (λ w. long-first _ _ (sym c.lookup.ensures ∙ w.1)) (λ e. half-symbol _ _ (sym c.lookup.ensures ∙ e)) c.in-Long.is

pub returns-in-Brief : goal.returns-in-Brief
returns-in-Brief c = c.to_or.ensures ∙ brief-first _ _ (sym c.lookup.ensures ∙ c.in-Brief.is)

pub returns-in-Selected : goal.returns-in-Selected
returns-in-Selected c = selected-symbol _ _ (sym c.lookup.ensures ∙ c.in-Selected.is)

pub returns-in-Nothing : goal.returns-in-Nothing
returns-in-Nothing c = no_symbol _ _ (sym c.lookup.ensures ∙ c.in-Nothing.is)
