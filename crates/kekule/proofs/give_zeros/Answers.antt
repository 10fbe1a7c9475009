use mathlib.Core.Path.{ap, ◌∙◌}
use Rattle.matching.specs.Model.{reply}
use Rattle.matching.specs.declared.MatchingAnswer.TheVariants.{Given}
use Rattle.kekule.proofs.Kekule.{cleared}
use Rattle.kekule.proofs.give_zeros.Goals as goal

pub returns : goal.returns
returns c = ap (reply Given) (c.clear.ensures ∙ cleared c.args.row.now)
