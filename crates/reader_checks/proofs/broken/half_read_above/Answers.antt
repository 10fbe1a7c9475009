use mathlib.Core.Path.{◌∙◌}
use Rattle.reader_checks.proofs.Astray.{half_in, half_out}
use Rattle.reader_checks.proofs.broken.half_read_above.Goals as goal

pub returns-then-mode-ge10 : goal.returns-then-mode-ge10
returns-then-mode-ge10 c = let a = c.args in c.field_above.ensures ∙ half_in a.mode a.tens a.f c.if-mode-ge10.true

pub returns : goal.returns
returns c = let a = c.args in half_out a.mode a.tens a.f c.if-mode-ge10.false
