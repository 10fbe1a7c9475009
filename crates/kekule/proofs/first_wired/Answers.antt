use mathlib.Core.Path.{ap, ◌∙◌}
use Rattle.kekule_answers.specs.Answers.{is_given}
use Rattle.kekule.proofs.Exists.{first-in}
use Rattle.kekule.proofs.first_wired.Goals as goal

pub returns : goal.returns
returns c = λ bonds p. first-in c.args.row.now (c.is_given.ensures ∙ ap is_given c.found_of.ensures) (c.search_wired-answer.ensures bonds p)
