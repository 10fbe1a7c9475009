use mathlib.Core.Path.{sym, ◌∙◌}
use Rattle.element.proofs.Answers.{long, no-pair}
use Rattle.element.proofs.lookup.Goals as goal

pub returns-in-Some : goal.returns-in-Some
returns-in-Some c = long c.args.a c.args.b (sym c.in-Some.is ∙ c.pair.ensures)

pub returns-in-None : goal.returns-in-None
returns-in-None c = c.alone.ensures ∙ no-pair c.args.a c.args.b (sym c.in-None.is ∙ c.pair.ensures)
