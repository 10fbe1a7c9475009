use mathlib.Core.Path.{◌∙◌}
use Rattle.balsa.proofs.balsa_check.Goals as goal

pub returns : goal.returns
returns c = c.check_code.ensures ∙ c.check_tables.ensures
