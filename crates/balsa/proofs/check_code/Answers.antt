use mathlib.Core.Path.{sym, ap, ◌∙◌}
use Rattle.table.specs.Valid.{check_code}
use Rattle.balsa.proofs.check_code.Goals as goal

pub returns-in-Err : goal.returns-in-Err
returns-in-Err c = c.code.ensures ∙ ap check_code (sym c.in-Err.is)
