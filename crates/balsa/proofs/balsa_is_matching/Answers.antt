use mathlib.Core.Path.{◌∙◌}
use Rattle.balsa.proofs.balsa_is_matching.Goals as goal

pub returns : goal.returns
returns c = c.check_code.ensures ∙ c.is_matching.ensures
