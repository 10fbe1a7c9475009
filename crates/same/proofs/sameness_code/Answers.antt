use mathlib.Core.Path.{sym, ap, ◌∙◌}
use Rattle.same.specs.Answer.{sameness_code}
use Rattle.same.proofs.sameness_code.Goals as goal

pub returns-in-Refused : goal.returns-in-Refused
returns-in-Refused c = c.code.ensures ∙ ap sameness_code (sym c.in-Refused.is)
