use mathlib.Core.Path.{sym}
use Rattle.table_orders.proofs.Laws.{other-same}
use Rattle.table_orders.proofs.other_mark.Goals as goal

pub returns-in_default : goal.returns-in_default
returns-in_default c = sym (other-same _ c.in_default.in_default-own.rest.0.1 c.in_default.in_default-own.rest.1)
