use mathlib.Core.Path.{ap, sym, ◌∙◌}
use Rattle.balsa.specs.Symbol.{symbol_reply}
use Rattle.balsa.proofs.symbol.balsa_symbol.Goals as goal

pub returns-in-Long : goal.returns-in-Long
returns-in-Long c = c.found.ensures ∙ ap symbol_reply (sym c.in-Long.is ∙ c.lookup-s.ensures)

pub returns-in-Brief : goal.returns-in-Brief
returns-in-Brief c = c.found-in-Brief.ensures ∙ ap symbol_reply (sym c.in-Brief.is ∙ c.lookup-s.ensures)

pub returns-in-Selected : goal.returns-in-Selected
returns-in-Selected c = c.found-in-Selected.ensures ∙ ap symbol_reply (sym c.in-Selected.is ∙ c.lookup-s.ensures)

pub returns-in-Half : goal.returns-in-Half
returns-in-Half c = c.none.ensures ∙ ap symbol_reply (sym c.in-Half.is ∙ c.lookup-s.ensures)

pub returns-in-Nothing : goal.returns-in-Nothing
returns-in-Nothing c = c.none-in-Nothing.ensures ∙ ap symbol_reply (sym c.in-Nothing.is ∙ c.lookup-s.ensures)
