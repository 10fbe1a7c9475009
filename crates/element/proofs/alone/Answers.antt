-- `alone`: one law for each return.
use mathlib.Core.Path.{sym, ◌∙◌}
use Rattle.element.proofs.Answers.{star, chosen, lone}
use Rattle.element.proofs.alone.Goals as goal

pub returns-then-a-eq42 : goal.returns-then-a-eq42
returns-then-a-eq42 c = star c.args.a c.if-a-eq42.true

pub returns-in-Some : goal.returns-in-Some
returns-in-Some c = chosen c.args.a c.if-a-eq42.false (sym c.in-Some.is ∙ c.selected.ensures)

pub returns-in-None : goal.returns-in-None
returns-in-None c = lone c.args.a c.if-a-eq42.false (sym c.in-None.is ∙ c.selected.ensures) c.single.ensures
