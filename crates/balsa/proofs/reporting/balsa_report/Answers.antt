use mathlib.Core.Path.{◌∙◌}
use Rattle.balsa.proofs.reporting.balsa_report.Goals as goal

pub returns : goal.returns
returns c = c.from.ensures _ ∙ c.report.ensures
